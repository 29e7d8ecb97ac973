-- What a chip part shows, boundary by boundary: that a program memory keeps a core's steps.
use Rattle.std.specs.Prelude.{◌≡◌, ℕ, suc, ◌+◌, ◌<◌, ◌≤◌, ◌==◌, Bool, true, false, ◌&&◌, not, List, [], ◌∷◌, length, Some, None, IfSome}
use Rattle.frp_tree.specs.Tree.{ProgramTree}
use Rattle.efrp_meaning.specs.Decls.{inputs_of}
use Rattle.efrp_meaning.specs.Meaning.{initial_state}
use Rattle.efrp_meaning.specs.Bounds.{body, boot, off, levels, settle_bound}
use Rattle.pic_isa.specs.declared.sources.Source.{Source}
use Rattle.pic_regs.specs.declared.starts.Start.{Start}
use Rattle.pic_regs.specs.Bytes.{num, bits}
use Rattle.pic_regs.specs.Map.{within, reg_at, existing}
use Rattle.pic_regs.specs.Registers.{Registers, flag, byte_at}
use Rattle.pic_regs.specs.Start.{IsStart}
use Rattle.pic_machine.specs.declared.steps.Did.{Did}
use Rattle.pic_machine.specs.declared.steps.Did.TheVariants.{Took, Ran, Stopped}
use Rattle.pic_machine.specs.Chip.{Chip}
use Rattle.pic_machine.specs.Boundary.{Outer, Step, boundary}
use Rattle.pic_machine.specs.Run.{power_on}
use Rattle.pic_machine.specs.Dids.{is_stop}
use Rattle.map_file.specs.declared.maps.MapEvent.{MapEvent}
use Rattle.map_file.specs.declared.maps.Map.{Map}
use Rattle.firmware_promises.specs.MapNames.{states_in, is_listed}
use Rattle.firmware_promises.specs.Counts.{takes, ran_at, clears, latches, put_by}
use Rattle.firmware_promises.specs.Setups.{last_setup}
use Rattle.firmware_promises.specs.Urgent.{is_heard}
use Rattle.timed_core.specs.Timing.{Timing, Within, Quick}
use Rattle.timed_core.specs.Steps.{Run, Phase, Label, at, top_level, is_on}
use Rattle.timed_core.specs.Steps as core
use Rattle.timed_core.specs.Steps.Phase.{Boots, Rests, Chooses, Copies, Leaves}
use Rattle.timed_core.specs.Steps.Label.{Opens, Returns}
use Rattle.timed_core.specs.Tale.{is_clearing}
use Rattle.timed_core.specs.Counts.{is_commit}
use Rattle.timed_core.specs.Promises.{is_boot, is_taking}
use Rattle.timed_core.specs.Shape.{Shape, StillSet}
use Rattle.core_story.specs.Values.{Values, Valued, first_values, item}

-- Events by their numbers in the map's order, which is the program's: their levels are their priorities, and all other
-- numbers have level 0.
abbrev pub level_at : Map → ℕ → ℕ
level_at m x = elim (item m.events x) [ Some e ↦ e.priority | None ↦ 0 ]

abbrev pub numbers_from : ℕ → List MapEvent → List ℕ
numbers_from k [] = []
numbers_from k (e ∷ es) = k ∷ numbers_from (suc k) es

-- A test of an event's source; false where the number is none of an event.
abbrev pub at_event : Map → ℕ → (Source → Bool) → Bool
at_event m x test = elim (item m.events x) [ Some e ↦ test e.source | None ↦ false ]

abbrev pub flag_at : Map → Registers → ℕ → Bool
flag_at m r x = at_event m x (λ source. flag source r)

abbrev pub latched_at : Map → Step → ℕ → Bool
latched_at m step x = at_event m x (λ source. latches source step)

-- The timing is the program's: its events and levels, for each event's work the body that the program gives it and what is
-- spared, and its bounds on the boot and on interrupts that are off. The map's depth and settle are enough for it.
pub record Fitted (p : ProgramTree) (m : Map) (t : Timing) : Type 0 where
  pub events : t.events ≡ numbers_from 0 m.events
  pub level : (x : ℕ) → t.level x ≡ level_at m x
  pub body : (x : ℕ) (e : MapEvent) → item m.events x ≡ Some e → t.body x ≡ body p e.name + t.spare
  pub boot : t.boot ≤ boot p
  pub in_time : Within t (off p)
  pub quick : Quick t
  pub depth : levels p ≤ m.depth
  pub settle : settle_bound p ≤ m.settle

-- RETFIE ran, whose word is 0009h.
abbrev pub is_return_word : Did → Bool
is_return_word Took = false
is_return_word (Ran address word) = word == 0x0009
is_return_word (Stopped address why) = false

abbrev pub returns : Step → Bool
returns step = is_return_word step.did

abbrev pub is_return : Label → Bool
is_return Returns = true
is_return _ = false

abbrev pub is_opening : ℕ → Label → Bool
is_opening x (Opens e) = x == e
is_opening x _ = false

-- A step of the chip does what its label says. It takes an interrupt, returns, opens, commits and clears an event's flag
-- exactly where the label does; no flag of an event is set by it. Where interrupts are on, each event above the top run is
-- heard. In the boot no flag is cleared, of whatever source. No step stops, and each writes a listed register if any.
pub record Told (m : Map) (t : Timing) (ph : Phase) (st : List Run) (label : Label) (step : Step) : Type 0 where
  pub takes_is : takes step ≡ is_taking label
  pub returns_is : returns step ≡ is_return label
  pub opened : (x : ℕ) (e : MapEvent) → item m.events x ≡ Some e → ran_at e.«open» step ≡ is_opening x label
  pub committed : (x : ℕ) (e : MapEvent) → item m.events x ≡ Some e → ran_at e.commit step ≡ is_commit x label
  pub flags : (x : ℕ) (e : MapEvent) → item m.events x ≡ Some e → flag e.source step.after.regs ≡ (flag e.source step.arrived.regs && not (is_clearing x label))
  pub heard : (x : ℕ) (e : MapEvent) → item m.events x ≡ Some e → is_on ph ≡ true → top_level t st < t.level x → is_heard e step ≡ true
  pub kept : is_boot ph ≡ true → (source : Source) → clears source step ≡ false
  pub goes_on : is_stop step.did ≡ false
  pub listed : IfSome step.wrote (λ a. is_listed m a ≡ true)

-- The registers that are set up, but for ports, hold the byte of their last setup.
abbrev pub AreSetUp : ProgramTree → Registers → Type 0
AreSetUp p r = (a byte : ℕ) → within 5 9 a ≡ false → last_setup p.setups a ≡ Some byte → byte_at r a ≡ num (existing (reg_at a) (bits byte))

abbrev pub is_rest : Phase → Bool
is_rest Rests = true
is_rest _ = false

-- The states' bytes hold the state: past the boot and outside windows.
abbrev pub shows_state : Phase → Bool
shows_state (Boots j) = false
shows_state (Copies j) = false
shows_state _ = true

-- The interrupts that haven't returned: of the runs under way, and one more while an event is chosen or a run leaves.
abbrev pub nested : Phase → List Run → ℕ
nested (Chooses j g) st = length st + 1
nested (Leaves e j) st = length st + 1
nested _ st = length st

-- What is seen of a chip at a boundary, by the core's phase and stack and the values.
pub record Seen (p : ProgramTree) (m : Map) (ph : Phase) (st : List Run) (v : Values) (c : Chip) : Type 0 where
  pub on : c.regs.intcon.b7 ≡ is_on ph
  pub there : is_rest ph ≡ true → c.pc ≡ m.ready
  pub not_there : is_boot ph ≡ true → c.pc ≡ m.ready → ⊥
  pub holds : shows_state ph ≡ true → states_in m c ≡ v.state
  pub set_up : is_boot ph ≡ false → AreSetUp p c.regs
  pub depth : c.depth ≤ nested ph st

-- A step of the chip is one of the core: with a label, to a phase, a stack and values for which the relation holds again.
pub record Next (p : ProgramTree) (m : Map) (t : Timing) (Sim : Phase → List Run → Values → Chip → Type 0) (ph : Phase) (st : List Run) (v : Values) (step : Step) : Type 0 where
  pub label : Label
  pub phase : Phase
  pub stack : List Run
  pub values : Values
  pub goes : core.Step t (flag_at m step.arrived.regs) ph label st (at phase stack)
  pub valued : Valued p m label (put_by step.port) v values
  pub told : Told m t ph st label step
  pub keeps : Sim phase stack values step.after

-- The relation between a core and a chip that runs this program memory holds at power-on and is kept at each boundary,
-- whatever comes from outside; and it shows what is to be seen. The shape of the core is given to who shows this. The
-- program has no inputs, so that reactions need no samples.
pub record Simulated (p : ProgramTree) (m : Map) (t : Timing) (program : ℕ → ℕ) (Sim : Phase → List Run → Values → Chip → Type 0) : Type 0 where
  pub fitted : Fitted p m t
  pub no_inputs : inputs_of p ≡ []
  pub initial : List ℕ
  pub begins : initial_state p ≡ Some initial
  pub starts : (start : Start) → IsStart start → Sim (Boots t.boot) [] (first_values p initial) (power_on start)
  pub next : (outer : Outer) (ph : Phase) (st : List Run) (v : Values) (c : Chip) → Shape t ph st → StillSet (flag_at m c.regs) ph → Sim ph st v c → Next p m t Sim ph st v (boundary program outer c)
  pub seen : (ph : Phase) (st : List Run) (v : Values) (c : Chip) → Sim ph st v c → Seen p m ph st v c
