-- The relation between the core of priorities and a chip that runs the code of a layout: what is known of the chip by the core's
-- phase, its stack and the values.
use Rattle.std.specs.Prelude.{◌≡◌, ℕ, suc, ◌+◌, ◌%◌, ◌<◌, ◌≤◌, ◌⊎◌, Bool, true, false, List, [], ◌∷◌, ◌++◌, length}
use Rattle.frp_tree.specs.Tree.{ProgramTree}
use Rattle.efrp_meaning.specs.States.{IsState}
use Rattle.pic_regs.specs.Bytes.{zeros}
use Rattle.pic_regs.specs.Registers.{flag}
use Rattle.pic_machine.specs.declared.steps.PortWrite.{PortWrite}
use Rattle.pic_machine.specs.Chip.{Chip}
use Rattle.timed_core.specs.Timing.{Timing}
use Rattle.timed_core.specs.Steps.{Run, Phase, Best}
use Rattle.timed_core.specs.Steps.Phase.{Boots, Rests, Works, Owes, Chooses, Begins, Repeats, Nears, Copies, Leaves}
use Rattle.core_story.specs.Values.{Values}
use Rattle.core_story.specs.Interface.{AreSetUp, flag_at}
use Rattle.code_steps.specs.declared.banks.Bank.TheVariants.{Known}
use Rattle.code_steps.specs.Ends.{Holds}
use Rattle.glue_steps.specs.Still.{Off}
use Rattle.firmware_parts.specs.Layout.{Layout, Easy, Usual, is_told}
use Rattle.firmware_parts.specs.Layout.Part.{Boot, Taking, Start, Begin, Lock, Copying, Exit}
use Rattle.firmware_parts.specs.Contexts.{AtLevel}
use Rattle.firmware_parts.specs.Runs.{Leads, Void, Clean, Reacts, AtClear, AtOn, AtOpen, AtCommit, AtReturn}
use Rattle.firmware_parts.specs.Vector.{AtBootEnd, Chosen}
use Rattle.code_story.specs.Code.{GivesBack, Code}

-- The layout's level of the top run, 0 where there is none.
abbrev pub level_of_top : Layout → List Run → ℕ
level_of_top l [] = 0
level_of_top l (r ∷ rs) = l.level r.event

-- The bytes of frames of events up to a level are as on the chip `x`.
abbrev pub SameFrames : Layout → ℕ → (x c : Chip) → Type 0
SameFrames l level x c = (e address : ℕ) → 0 < l.level e → l.level e ≤ level → l.frame e address ≡ true → c.regs.plain address ≡ x.regs.plain address

-- At the ready address, and in the work of a run: what holds wherever an interrupt is taken.
pub record AtReady (l : Layout) (c : Chip) : Type 0 where
  pub there : c.pc ≡ l.ready
  pub heard : AtLevel l 0 c
  pub bank : Holds (Known 0) c
  pub page : c.regs.pclath ≡ zeros

pub record InWork (l : Layout) (r : Run) (c : Chip) : Type 0 where
  pub real : 0 < l.level r.event
  pub long : l.is_short r.event ≡ false
  pub heard : AtLevel l (l.level r.event) c
  pub easy : Easy l c
  pub usual : l.is_locked r.event ≡ true → Usual l c
  pub void : Void l r.event r.rest c

-- What a run that interrupted the chip `x`, with these runs under way there, leaves as it was: the return stack up to the place where
-- `x` goes on, and the frames of these runs.
pub record Over (l : Layout) (st : List Run) (x c : Chip) : Type 0 where
  pub place : c.stack (length st) ≡ x.pc
  pub beneath : (i : ℕ) → i < length st → c.stack i ≡ x.stack i
  pub top : c.top ≡ suc (length st) % 8
  pub depth : c.depth ≤ suc (length st)
  pub frames : SameFrames l (level_of_top l st) x c

-- The run of an event interrupted a chip of which this is known, and has saved what that needs.
pub record Interrupts (t : Timing) (l : Layout) (Paused : Chip → Type 0) (e : ℕ) (st : List Run) (c : Chip) : Type 0 where
  pub chip : Chip
  pub saved : GivesBack t l e chip c
  pub over : Over l st chip c
  pub paused : Paused chip

-- A chip that was interrupted with these runs under way: the top one was at work, or control rested.
abbrev pub Paused : Timing → Layout → List Run → Chip → Type 0
Paused t l [] x = AtReady l x
Paused t l (r ∷ rs) x = InWork l r x × (l.is_locked r.event ≡ true) × Interrupts t l (Paused t l rs) r.event rs x

abbrev pub Beneath : Timing → Layout → ℕ → List Run → Chip → Type 0
Beneath t l e st c = Interrupts t l (Paused t l st) e st c

-- Past the boot: RBIE is clear, what is set up stands, the state is one.
pub record Past (p : ProgramTree) (v : Values) (c : Chip) : Type 0 where
  pub rbie : c.regs.intcon.b3 ≡ false
  pub set_up : AreSetUp p c.regs
  pub typed : IsState p v.state

-- With interrupts off, past the boot.
pub record InGlue (p : ProgramTree) (v : Values) (c : Chip) : Type 0 where
  pub none_due : c.due ≡ false
  pub off : Off c
  pub past : Past p v c

module _ (f : Code) where
  pub record InBoot (j : ℕ) (v : Values) (c : Chip) : Type 0 where
    pub none_due : c.due ≡ false
    pub off : Off c
    pub top : c.top ≡ 0
    pub depth : c.depth ≡ 0
    pub first : v.state ≡ f.initial
    pub leads : Leads f.l Boot (AtBootEnd f.p f.l f.initial) v.left j c

  -- Control rests; whether an interrupt is due.
  pub record Resting (due : Bool) (v : Values) (c : Chip) : Type 0 where
    pub on : c.regs.intcon.b7 ≡ true
    pub due_is : c.due ≡ due
    pub past : Past f.p v c
    pub shows : f.l.states c.regs.plain ≡ v.state
    pub at_ready : AtReady f.l c
    pub top : c.top ≡ 0
    pub depth : c.depth ≡ 0

  -- The top run works, or stands behind its lock; whether interrupts are on, and one is due.
  pub record Working (on due : Bool) (r : Run) (rs : List Run) (v : Values) (c : Chip) : Type 0 where
    pub on_is : c.regs.intcon.b7 ≡ on
    pub due_is : c.due ≡ due
    pub past : Past f.p v c
    pub shows : f.l.states c.regs.plain ≡ v.state
    pub work : InWork f.l r c
    pub beneath : Beneath f.t f.l r.event rs c

  -- What the run will find at its lock: void or not, it is told so where it tests; and where it isn't, it comes to the reaction.
  pub record Lives (r : Run) (c : Chip) : Type 0 where
    pub told : f.l.is_locked r.event ≡ true → is_told c ≡ r.void
    pub never_void : f.l.is_locked r.event ≡ false → r.void ≡ false
    pub clean : r.void ≡ false → (k : ℕ) × Clean f.p f.m f.l r.event k c

  -- From a taking on the way to the start of a run, and from there to the clearing of its event's flag.
  pub record Dispatching (x : Chip) (j : ℕ) (st : List Run) (c : Chip) : Type 0 where
    pub steps : ℕ
    pub in_time : steps + f.starting ≤ j
    pub leads : Leads f.l Taking (Chosen f.l x (level_of_top f.l st)) [] steps c

  pub record Entering (x : Chip) (j : ℕ) (g : ℕ → Bool) (st : List Run) (c : Chip) : Type 0 where
    pub event : ℕ
    pub steps : ℕ
    pub in_time : steps ≤ j
    pub set : flag (f.l.source event) c.regs ≡ true
    pub best : Best f.t g event
    pub above : level_of_top f.l st < f.l.level event
    pub leads : Leads f.l (Start event) (AtClear f.p f.m f.l (GivesBack f.t f.l) event x) [] steps c

  pub record Choosing (j : ℕ) (g : ℕ → Bool) (st : List Run) (v : Values) (c : Chip) : Type 0 where
    pub glue : InGlue f.p v c
    pub shows : f.l.states c.regs.plain ≡ v.state
    pub chip : Chip
    pub over : Over f.l st chip c
    pub paused : Paused f.t f.l st chip
    pub was_set : (x : ℕ) → g x ≡ true → flag_at f.m chip.regs x ≡ true
    pub way : Dispatching chip j st c ⊎ Entering chip j g st c

  -- In the run of an event, with interrupts off.
  pub record InRun (e : ℕ) (rs : List Run) (v : Values) (c : Chip) : Type 0 where
    pub glue : InGlue f.p v c
    pub real : 0 < f.l.level e
    pub beneath : Beneath f.t f.l e rs c

  -- On the way to the step that turns interrupts on.
  pub record Beginning (e j : ℕ) (v : Values) (c : Chip) : Type 0 where
    pub shows : f.l.states c.regs.plain ≡ v.state
    pub long : f.l.is_short e ≡ false
    pub heard : AtLevel f.l (f.l.level e) c
    pub leads : Leads f.l (Begin e) (AtOn f.l e) [] j c

  -- A short run is at its open at once.
  pub record ShortAtOpen (e : ℕ) (v : Values) (c : Chip) : Type 0 where
    pub shows : f.l.states c.regs.plain ≡ v.state
    pub is_short : f.l.is_short e ≡ true
    pub at_open : AtOpen f.l e c
    pub reacts : Reacts f.p f.m f.l e c.regs.plain

  pub record Nearing (e j : ℕ) (v : Values) (c : Chip) : Type 0 where
    pub shows : f.l.states c.regs.plain ≡ v.state
    pub long : f.l.is_short e ≡ false
    pub reacts : Reacts f.p f.m f.l e c.regs.plain
    pub leads : Leads f.l (Lock e) (AtOpen f.l e) [] j c

  -- The window was opened on this chip; the bytes that are still to be put before the commit, and at it.
  pub record InWindow (e j : ℕ) (v : Values) (c : Chip) : Type 0 where
    pub chip : Chip
    pub early : List PortWrite
    pub late : List PortWrite
    pub left : v.left ≡ early ++ late
    pub next : v.next ≡ f.l.next_of e chip.regs.plain
    pub typed : IsState f.p v.next
    pub easy : Easy f.l c
    pub leads : Leads f.l (Copying e) (AtCommit f.l e chip late) early j c

  -- The run has committed, and goes back to the chip that it interrupted.
  pub record Leaving (e j : ℕ) (st : List Run) (v : Values) (c : Chip) : Type 0 where
    pub glue : InGlue f.p v c
    pub real : 0 < f.l.level e
    pub shows : f.l.states c.regs.plain ≡ v.state
    pub told : f.l.is_telling e ≡ true → is_told c ≡ true
    pub chip : Chip
    pub over : Over f.l st chip c
    pub paused : Paused f.t f.l st chip
    pub leads : Leads f.l (Exit e) (AtReturn f.l chip) [] j c

  abbrev pub Sim : Phase → List Run → Values → Chip → Type 0
  Sim (Boots j) st v c = InBoot j v c
  Sim Rests st v c = Resting false v c
  Sim Works [] v c = ⊥
  Sim Works (r ∷ rs) v c = Working true false r rs v c × Lives r c
  Sim (Owes on g) [] v c = (on ≡ true) × Resting true v c
  Sim (Owes on g) (r ∷ rs) v c = Working on true r rs v c × (f.l.is_locked r.event ≡ true)
  Sim (Chooses j g) st v c = Choosing j g st v c
  Sim (Begins j) [] v c = ⊥
  Sim (Begins j) (r ∷ rs) v c = InRun r.event rs v c × (Beginning r.event j v c ⊎ ShortAtOpen r.event v c)
  Sim (Repeats j) [] v c = ⊥
  Sim (Repeats j) (r ∷ rs) v c = InRun r.event rs v c × Beginning r.event j v c
  Sim (Nears j) [] v c = ⊥
  Sim (Nears j) (r ∷ rs) v c = InRun r.event rs v c × Nearing r.event j v c
  Sim (Copies j) [] v c = ⊥
  Sim (Copies j) (r ∷ rs) v c = InRun r.event rs v c × InWindow r.event j v c
  Sim (Leaves e j) st v c = Leaving e j st v c
