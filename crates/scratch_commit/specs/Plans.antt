-- The run of an event as a plan, and its items.
use Rattle.std.specs.Prelude.{◌≡◌, ℕ, ◌<◌, ◌≤◌, Bool, true, false, not, nat_lt, ◌||◌, ◌&&◌, ◌==◌, if◌then◌else◌, is_none, Option, List, [], ◌∷◌, ◌++◌, map}
use Rattle.std.specs.List.{AllByRecursion}
use Rattle.frp_tree.specs.Tree.{ProgramTree}
use Rattle.pic_isa.specs.declared.bits.TheConstants.{GIE}
use Rattle.pic_isa.specs.declared.instructions.Instr.TheVariants.{Retfie}
use Rattle.pic_isa.specs.declared.sources.Source.{Source}
use Rattle.pic_regs.specs.declared.places.Place.{Place}
use Rattle.pic_regs.specs.declared.places.Place.TheVariants as place
use Rattle.efrp_meaning.specs.Bounds.{levels as levels_of}
use Rattle.bank_alloc.specs.declared.needs.Needs.{Needs}
use Rattle.priority_masks.specs.Levels.{AreLevelsOf, level_of}
use Rattle.code_steps.specs.declared.banks.Bank.{Bank}
use Rattle.code_steps.specs.declared.banks.Bank.TheVariants.{Known}
use Rattle.code_items.specs.declared.items.Item.{Item}
use Rattle.code_items.specs.declared.items.Item.TheVariants.{Ins, Mark, Jump}
use Rattle.glue_steps.specs.declared.lines.Line.TheVariants.{Bit, Skip}
use Rattle.glue_steps.specs.Lines.{item_of}
use Rattle.glue_parts.specs.declared.kept.TheConstants.{REDO}
use Rattle.glue_parts.specs.declared.moves.Move.{Move}
use Rattle.glue_parts.specs.declared.spread.Context.{Context}
use Rattle.glue_parts.specs.declared.spread.Spread.{Spread}
use Rattle.glue_parts.specs.Marks.{mark, Entry, Again, Lock}
use Rattle.scratch_commit.specs.declared.frames.Frame.{Frame}
use Rattle.scratch_commit.specs.declared.kinds.Kind.{Kind}
use Rattle.scratch_commit.specs.declared.kinds.Kind.TheVariants.{Short, Long, Bottom, Middle}
use Rattle.scratch_commit.specs.declared.masks.Heard.{Heard}
use Rattle.scratch_commit.specs.declared.masks.Masks.{Masks}
use Rattle.scratch_commit.specs.declared.runs.Run.{Run}
use Rattle.scratch_commit.specs.declared.runs.Terms.{Terms}
use Rattle.scratch_commit.specs.Deeds.{Deed, Choose, LowerFlag, Make, Write, lines_in, bank_past}
use Rattle.scratch_commit.specs.Frames.{bringing_back, frame_of, saving_context, saving_enables, unmasking}
use Rattle.scratch_commit.specs.Masks.{AreHeard, masking, masks_of, no_masks, saved_of}
use Rattle.scratch_commit.specs.Windows.{MoveNamed, window, window_items}

-- A run: its event's number and source, its kind and its event's level, of so many; the enables at idle, at its level and beneath;
-- the bytes that are placed, and how far firmware is spread; its work, with the bank behind it; and what its window copies.
pub record Plan : Type 0 where
  pub event : ℕ
  pub source : Source
  pub kind : Kind
  pub level : ℕ
  pub levels : ℕ
  pub heard : Heard
  pub need : Needs
  pub spread : Spread
  pub work : List Item
  pub bank : Bank
  pub moves : List Move

-- The plan of a run in a program.
abbrev pub plan_of : ProgramTree → Run → Heard → Plan
plan_of p run heard = record {
  event = run.event;
  source = run.source;
  kind = run.kind;
  level = level_of p run.event;
  levels = levels_of p;
  heard = heard;
  need = run.places.now.need;
  spread = run.spread;
  work = run.work.now.code.items;
  bank = run.work.now.bank;
  moves = run.moves.now;
}

-- It interrupts nothing but the ready address. What the taking saves: STATUS and PCLATH, each where it can differ in what is
-- interrupted. The enables that it clears: those with interrupts off throughout clear none. Where it finds again what was saved.
abbrev pub is_bottom : Kind → Bool
is_bottom Bottom = true
is_bottom _ = false

abbrev pub is_short : Kind → Bool
is_short Short = true
is_short _ = false

abbrev pub over_idle : Plan → Bool
over_idle plan = is_bottom plan.kind || plan.levels == 1

abbrev pub context_in : Plan → Context
context_in plan = record { status = nat_lt 1 plan.levels && plan.spread.banks; pclath = nat_lt 1 plan.levels && plan.spread.pages }

abbrev pub masks_in : Plan → Masks
masks_in plan = if is_short plan.kind then no_masks else masks_of plan.heard

abbrev pub frame_in : Plan → Frame
frame_in plan = frame_of plan.kind plan.level plan.need (context_in plan) (saved_of (masks_in plan))

-- Before the event's flag is cleared, where the work comes later: frame, masks, bank 0.
abbrev pub entering : Kind → Masks → Frame → List Deed
entering kind masks frame = saving_context kind frame ++ (saving_enables frame ++ (masking masks ++ Choose 0 ∷ []))

abbrev pub starting : Kind → Source → Masks → Frame → List Deed
starting kind source masks frame = entering kind masks frame ++ LowerFlag source ∷ []

-- Interrupts go on for work from the present state, in bank 0.
abbrev pub beginning : List Deed
beginning = Choose 0 ∷ Write REDO 0 ∷ Make true place.Intcon GIE ∷ []

-- Behind the window: enables, PCLATH and the bank bits become what they were in what was interrupted, of the ready address 0.
abbrev pub clearing_page : Bool → List Deed
clearing_page clears = if clears then Write place.Pclath 0 ∷ [] else []

abbrev pub going_home : Option Place → List Deed
going_home status = if is_none status then Choose 0 ∷ [] else []

abbrev pub returning : Masks → Frame → (clears : Bool) → List Deed
returning masks frame clears = unmasking masks frame ++ (clearing_page clears ++ (bringing_back frame ++ going_home frame.status))

-- The items of deeds, begun in this bank.
abbrev pub glue : Bank → List Deed → List Item
glue bank deeds = map item_of (lines_in bank deeds)

-- GIE is cleared until it reads 0; where the redo bit is set then, the work begins again.
abbrev pub lock_items : (event : ℕ) → List Item
lock_items event =
    Mark (mark (Lock event)) ∷ item_of (Bit false place.Intcon GIE)
    ∷ item_of (Skip false place.Intcon GIE) ∷ Jump (mark (Lock event))
    ∷ item_of (Skip false REDO 0) ∷ Jump (mark (Again event)) ∷ []

-- Up to the window: with interrupts off throughout; on in the work, in which none is heard; or on with a lock behind the work.
abbrev pub short_items : Source → (work : List Item) → Bank → List Item
short_items source work bank = work ++ glue bank (LowerFlag source ∷ [])

abbrev pub long_items : (start work : List Item) → List Item
long_items start work = start ++ (item_of (Bit true place.Intcon GIE) ∷ (work ++ item_of (Bit false place.Intcon GIE) ∷ []))

abbrev pub locked_items : (event : ℕ) (start work : List Item) → Bank → List Item
locked_items event start work bank = start ++ (Mark (mark (Again event)) ∷ (glue bank beginning ++ (work ++ lock_items event)))

abbrev pub working : Kind → (event : ℕ) → Source → Masks → Frame → (work : List Item) → Bank → List Item
working Short event source masks frame work bank = short_items source work bank
working Long event source masks frame work bank = long_items (glue (Known 0) (starting Long source masks frame)) work
working kind event source masks frame work bank = locked_items event (glue (Known 0) (starting kind source masks frame)) work bank

-- The bank in which the window is begun.
abbrev pub bank_at_window : Kind → Source → Bank → Bank
bank_at_window kind source bank = if is_short kind then bank_past bank (LowerFlag source ∷ []) else bank

-- The items of a run: its mark, its work with what stands around it, its window, and its return.
abbrev pub run_items : Plan → List Item
run_items plan =
    let bank : Bank = bank_at_window plan.kind plan.source plan.bank in
    let moves : List Deed = window plan.moves (not (over_idle plan)) in
    let end : List Deed = returning (masks_in plan) (frame_in plan) (plan.spread.pages && over_idle plan) in
    Mark (mark (Entry plan.event))
    ∷ (working plan.kind plan.event plan.source (masks_in plan) (frame_in plan) plan.work plan.bank
    ++ (window_items plan.event bank moves ++ (glue (bank_past bank moves) end ++ Ins Retfie ∷ [])))

-- An item is an instruction.
abbrev pub IsInstruction : Item → Type 0
IsInstruction (Ins i) = Unit {0}
IsInstruction (Mark m) = ⊥
IsInstruction (Jump m) = ⊥

-- A run that has code: its levels are those of a program, and the event is one of its events; each level has a frame; its window
-- copies registers that exist; and its work is instructions.
pub record IsRun (run : Run) : Type 0 where
  pub levels : (p : ProgramTree) × AreLevelsOf p run.levels.now
  pub event : run.event < run.levels.now.events
  pub placed : run.levels.now.count ≤ run.places.now.need.levels
  pub moves : AllByRecursion MoveNamed run.moves.now
  pub work : AllByRecursion IsInstruction run.work.now.code.items

-- What follows from the level of a run's event in a program.
pub record AreTermsOf (p : ProgramTree) (run : Run) (terms : Terms) : Type 0 where
  pub heard : Heard
  pub are_heard : AreHeard p (level_of p run.event) heard
  pub masks : terms.masks ≡ masks_in (plan_of p run heard)
  pub frame : terms.frame ≡ frame_in (plan_of p run heard)
  pub over_idle : terms.over_idle ≡ over_idle (plan_of p run heard)

-- Items are those of the run in a program; a frame is where it finds again what was saved.
pub record IsCodeOf (p : ProgramTree) (run : Run) (items : List Item) : Type 0 where
  pub heard : Heard
  pub are_heard : AreHeard p (level_of p run.event) heard
  pub are_its : items ≡ run_items (plan_of p run heard)

pub record IsFrameOf (p : ProgramTree) (run : Run) (frame : Frame) : Type 0 where
  pub heard : Heard
  pub are_heard : AreHeard p (level_of p run.event) heard
  pub is_its : frame ≡ frame_in (plan_of p run heard)
