-- What a layout has to say of the run of an event whose items stand in program memory.
use Rattle.std.specs.Prelude.{◌≡◌, ℕ, ◌+◌, ◌-◌, ◌≤◌, ◌<◌, true, false, not, List, [], ◌∷◌, ◌++◌, length}
use Rattle.std.specs.List.{AllByRecursion}
use Rattle.std.specs.Option.{ForSome}
use Rattle.frp_tree.specs.Tree.{ProgramTree}
use Rattle.pic_regs.specs.declared.places.Place.{Place}
use Rattle.pic_regs.specs.declared.places.Place.TheVariants as place
use Rattle.pic_regs.specs.Bytes.{Byte, updated}
use Rattle.map_file.specs.declared.maps.Map.{Map}
use Rattle.timed_core.specs.Timing.{Timing}
use Rattle.bank_alloc.specs.Needs.{bytes_of}
use Rattle.code_steps.specs.declared.banks.Bank.TheVariants.{Known}
use Rattle.code_steps.specs.Ends.{Between}
use Rattle.code_items.specs.Lines.{Stands}
use Rattle.glue_parts.specs.Heard.{IsHeardAt}
use Rattle.glue_parts.specs.Moves.{after_moves, puts_by}
use Rattle.firmware_parts.specs.Layout.{Layout, Part}
use Rattle.firmware_parts.specs.Layout.Part.{Begin, Commit, Copying, Exit, Lock, Open, Start, Work}
use Rattle.firmware_parts.specs.Work.{DoesWork}
use Rattle.scratch_commit.specs.declared.frames.Frame.{Frame}
use Rattle.scratch_commit.specs.Deeds.{Deed, lines_in}
use Rattle.scratch_commit.specs.Plans.{IsInstruction, Plan, context_in, frame_in, is_bottom, is_short, over_idle, run_items}
use Rattle.run_steps.specs.Deeds.{DeedStill, MoveFits}
use Rattle.run_steps.specs.Spots.{Spots, before_flag, entering_in, exit_bank, is_locked, moves_in, open_bank, restarting, returning_in, spots_of}

-- The plan is that of the event's run in this layout: kind and level fit each other, and the enables are those of the levels.
pub record IsPlanOf (p : ProgramTree) (l : Layout) (e : ℕ) (plan : Plan) : Type 0 where
  pub event : plan.event ≡ e
  pub source : plan.source ≡ l.source e
  pub level : plan.level ≡ l.level e
  pub from_one : 1 ≤ plan.level
  pub to_all : plan.level ≤ plan.levels
  pub levels : plan.levels ≤ 8
  pub frames : plan.levels ≤ plan.need.levels
  pub bytes : bytes_of plan.need ≤ 352
  pub lowest : is_bottom plan.kind ≡ true → plan.level ≡ 1
  pub several : is_locked plan.kind ≡ true → 1 < plan.levels
  pub paged : l.paged ≡ plan.spread.pages
  pub saves_status : l.saves_status ≡ (context_in plan).status
  pub saves_pclath : l.saves_pclath ≡ (context_in plan).pclath
  pub short : l.is_short e ≡ is_short plan.kind
  pub locked : l.is_locked e ≡ is_locked plan.kind
  pub telling : l.is_telling e ≡ not (over_idle plan)
  pub heard : (level : ℕ) → level ≤ plan.level → IsHeardAt p level (l.enables level)
  pub idle : plan.heard.idle ≡ l.enables 0
  pub own : plan.heard.own ≡ l.enables plan.level
  pub beneath : plan.heard.beneath ≡ l.enables (plan.level - 1)
  pub bank : l.bank e ≡ open_bank plan
  pub exit_bank : l.exit_bank e ≡ exit_bank plan

-- Its places are the event's, as the items give them from where they start.
pub record AreSpotsOf (l : Layout) (e : ℕ) (spots : Spots) : Type 0 where
  pub entry : l.entry e ≡ spots.entry
  pub clear : l.clear e ≡ spots.clear
  pub on : l.is_short e ≡ false → l.on e ≡ spots.on
  pub work : l.is_short e ≡ false → l.work e ≡ spots.work
  pub lock : l.is_short e ≡ false → l.lock e ≡ spots.lock
  pub opens : l.opens e ≡ spots.opens
  pub commits : l.commits e ≡ spots.commits

-- The places of the run lie in its parts.
abbrev pub Inside : Layout → Part → (start stop : ℕ) → Type 0
Inside l of start stop = (place : ℕ) → Between start stop place → l.inside of place ≡ true

pub record LieInParts (l : Layout) (e : ℕ) (spots : Spots) : Type 0 where
  pub start : Inside l (Start e) spots.entry spots.clear
  pub begin : Inside l (Begin e) (spots.clear + 1) spots.on
  pub again : Inside l (Begin e) (spots.lock + 1) spots.opens
  pub work : Inside l (Work e) spots.work spots.opens
  pub lock : Inside l (Lock e) (spots.lock + 1) spots.opens
  pub opens : Inside l (Open e) spots.opens (spots.opens + 1)
  pub copying : Inside l (Copying e) (spots.opens + 1) spots.commits
  pub commits : Inside l (Commit e) spots.commits (spots.commits + 1)
  pub exit : Inside l (Exit e) (spots.commits + 1) spots.stops

-- Deeds are steps of glue that write what a part may write.
abbrev pub May : Layout → Part → ℕ → Type 0
May l of address = l.may of address ≡ true

abbrev pub MayDo : Layout → Part → List Deed → Type 0
MayDo l of deeds = AllByRecursion (DeedStill (May l of)) deeds

-- The parts may write what the run's deeds write there: of its window the commit what the last deed does, and the copies what those
-- before it do; PCLATH, where there are page settings; and in a short run before its flag is cleared what its work writes.
pub record MayBeWritten (l : Layout) (e : ℕ) (plan : Plan) : Type 0 where
  pub start : l.is_short e ≡ false → MayDo l (Start e) (entering_in plan)
  pub short : l.is_short e ≡ true → (address : ℕ) → May l (Work e) address → May l (Start e) address
  pub begin : l.is_locked e ≡ true → MayDo l (Begin e) restarting
  pub copying : (front : List Deed) (last : Deed) → moves_in plan ≡ front ++ last ∷ [] → MayDo l (Copying e) front
  pub commit : (front : List Deed) (last : Deed) → moves_in plan ≡ front ++ last ∷ [] → MayDo l (Commit e) (last ∷ [])
  pub exit : MayDo l (Exit e) (returning_in plan)
  pub begin_pages : l.is_locked e ≡ true → l.paged ≡ true → May l (Begin e) 0x00A
  pub work_pages : l.is_locked e ≡ true → l.paged ≡ true → May l (Work e) 0x00A
  pub lock_pages : l.is_locked e ≡ true → l.paged ≡ true → May l (Lock e) 0x00A

-- Work that is done before the flag is cleared, with interrupts off, leaves the frame.
abbrev pub Spares : Layout → ℕ → Type 0
Spares l e = l.is_short e ≡ true → (address : ℕ) → l.frame e address ≡ true → May l (Work e) address → ⊥

-- What is saved lies in bytes of the run's frame.
abbrev pub InFrame : Layout → ℕ → Place → Type 0
InFrame l e p = (address : ℕ) × (p ≡ place.Plain address) × (l.frame e address ≡ true)

pub record IsFrameIn (l : Layout) (e : ℕ) (frame : Frame) : Type 0 where
  pub status : ForSome frame.status (InFrame l e)
  pub pclath : ForSome frame.pclath (InFrame l e)
  pub intcon : ForSome frame.intcon (InFrame l e)
  pub pie1 : ForSome frame.pie1 (InFrame l e)
  pub pie2 : ForSome frame.pie2 (InFrame l e)

-- The window makes the states what the layout says, and puts what it says; the states don't lie at 73h.
pub record MakesStates (l : Layout) (e : ℕ) (plan : Plan) : Type 0 where
  pub fit : AllByRecursion MoveFits plan.moves
  pub next : (plain : ℕ → Byte) → l.next_of e plain ≡ l.states (after_moves plan.moves plain)
  pub puts : (plain : ℕ → Byte) → l.puts_of e plain ≡ puts_by plan.moves plain
  pub untold : (plain : ℕ → Byte) (x : Byte) → l.states (updated plain 0x073 x) ≡ l.states plain

-- The bounds have room for its steps.
pub record FitsTimes (t : Timing) (l : Layout) (starting e : ℕ) (plan : Plan) : Type 0 where
  pub start : l.is_short e ≡ false → length (lines_in (Known 0) (entering_in plan)) ≤ starting
  pub short : l.is_short e ≡ true → length plan.work + length (before_flag plan) ≤ starting
  pub begin : length (lines_in plan.bank restarting) ≤ t.start
  pub body : l.is_short e ≡ false → length plan.work ≤ t.body e
  pub again : l.is_locked e ≡ true → 7 + length (lines_in plan.bank restarting) ≤ t.again
  pub opening : l.is_locked e ≡ true → 6 ≤ t.opening
  pub retry : l.is_locked e ≡ true → 4 ≤ t.retry
  pub copying : length (lines_in (open_bank plan) (moves_in plan)) ≤ 2 + t.copying
  pub exiting : length (lines_in (exit_bank plan) (returning_in plan)) ≤ t.exiting

-- The items of the event's run stand in program memory, and the layout tells of them what is so.
pub record IsRunIn (p : ProgramTree) (m : Map) (t : Timing) (l : Layout) (marks : ℕ → ℕ) (starting start : ℕ) (plan : Plan) (e : ℕ) : Type 0 where
  pub stop : ℕ
  pub stands : Stands l.paged l.program marks start (run_items plan) stop
  pub room : (spots_of l.paged start plan).stops < 8192
  pub page : l.paged ≡ false → (spots_of l.paged start plan).stops < 2048
  pub words : (place : ℕ) → l.program place < 0x4000
  pub instructions : AllByRecursion IsInstruction plan.work
  pub planned : IsPlanOf p l e plan
  pub spots : AreSpotsOf l e (spots_of l.paged start plan)
  pub lie : LieInParts l e (spots_of l.paged start plan)
  pub may : MayBeWritten l e plan
  pub spares : Spares l e
  pub frame : IsFrameIn l e (frame_in plan)
  pub states : MakesStates l e plan
  pub times : FitsTimes t l starting e plan
  pub most : ℕ
  pub work : DoesWork p m l most plan.bank e plan.work
