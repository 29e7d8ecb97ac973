-- Serial reactions: the chip comes to its ready boundary, windows open and close in turn, and what is committed, put and
-- sampled is that of a serial run.
use Rattle.std.specs.Prelude.{◌≡◌, ℕ, ◌+◌, ◌<◌, ◌≤◌, true, false, List, [], ◌∷◌, ◌++◌, take, Option, Some, None, option_and_then, ◌⊎◌}
use Rattle.std.specs.List.{flat_map, zip, AllByRecursion}
use Rattle.frp_tree.specs.declared.syntax.Setup.{Setup}
use Rattle.frp_tree.specs.Tree.{BehaviourTree, Plain, Input, Table, Reactive, ProgramTree}
use Rattle.efrp_meaning.specs.Decls.{decl_named}
use Rattle.efrp_meaning.specs.Needs.{inputs_needed}
use Rattle.efrp_meaning.specs.Meaning.{Reaction, react, state_after, ports_after}
use Rattle.efrp_meaning.specs.Bounds.{boot, off}
use Rattle.pic_isa.specs.Names.{port_at}
use Rattle.pic_regs.specs.Map.{Port}
use Rattle.pic_regs.specs.Registers.{read}
use Rattle.pic_machine.specs.declared.steps.PortWrite.{PortWrite}
use Rattle.pic_machine.specs.Run.{Log}
use Rattle.map_file.specs.declared.maps.MapEvent.{MapEvent}
use Rattle.map_file.specs.declared.maps.Map.{Map}
use Rattle.firmware_promises.specs.Counts.{chip_after, takes, ran_at, clears, opened_by, committed_by, opens, commits, port_writes, sample_at, window_samples, reactions}
use Rattle.firmware_promises.specs.MapNames.{states_in}
use Rattle.firmware_promises.specs.Ready.{ReadyAt, BeforeReady}

-- A byte that is put on a port, where there is one.
abbrev pub put_on : Option ℕ → ℕ → List PortWrite
put_on None byte = []
put_on (Some its_port) its_byte = record { port = its_port; byte = its_byte } ∷ []

abbrev pub setup_puts : ProgramTree → List PortWrite
setup_puts p = flat_map (λ (s : Setup). put_on (port_at s.register) s.byte) p.setups

-- What a reaction puts on ports: the value of each output at the port of that output, in order.
abbrev pub reaction_puts : ProgramTree → List ℕ → List PortWrite
reaction_puts p values = flat_map (λ pair. put_on (port_at pair.0.port) pair.1) (zip p.outputs values)

-- No window stands open: each open has its commit, in the same order.
abbrev pub NoWindow : Map → Log → ℕ → Type 0
NoWindow m log n = opens m log n ≡ commits m log n

-- A window of the event of this name stands open: there is one open more than commits, and it is its.
abbrev pub Window : Map → Log → ℕ → List ℕ → Type 0
Window m log n e = opens m log n ≡ commits m log n ++ e ∷ []

-- The ready boundary comes in time: once Boot + 2 steps and one more have passed, it was shown.
abbrev pub ReadyInTime : ProgramTree → Map → Log → ℕ → Type 0
ReadyInTime p m log n = boot p + 2 < n → (r : ℕ) × (r ≤ boot p + 2) × ReadyAt m log n r

-- No step before it takes an interrupt, opens or commits.
abbrev pub BootIsQuiet : Map → Log → ℕ → Type 0
BootIsQuiet m log n = (k : ℕ) → k < n → BeforeReady m log n k → (takes (log k) ≡ false) × (opened_by m (log k) ≡ []) × (committed_by m (log k) ≡ [])

-- Opens and commits alternate: at each moment there is no window, or one.
abbrev pub Alternates : Map → Log → ℕ → Type 0
Alternates m log n = (k : ℕ) → k ≤ n → NoWindow m log k ⊎ ((e : List ℕ) × Window m log k e)

-- No interrupt is taken in a window.
abbrev pub NoTakingInside : Map → Log → ℕ → Type 0
NoTakingInside m log n = (k : ℕ) (e : List ℕ) → k < n → Window m log k e → takes (log k) ≡ false

-- A window closes at most Off steps after its open: where step s opened and step s + Off has passed, one of the steps
-- between committed the same event.
abbrev pub ClosesInTime : ProgramTree → Map → Log → ℕ → Type 0
ClosesInTime p m log n = (s : ℕ) (e : List ℕ) → s + off p < n → opened_by m (log s) ≡ e ∷ []
    → (t : ℕ) × (s < t) × (t ≤ s + off p) × (committed_by m (log t) ≡ e ∷ [])

-- From the ready boundary on, where no window stands open, the states are those of the serial run of the reactions. Where
-- that is undefined this doesn't hold.
abbrev pub StatesAreSerial : ProgramTree → Map → Log → ℕ → Type 0
StatesAreSerial p m log n = (r k : ℕ) → ReadyAt m log n r → r ≤ k → k ≤ n → NoWindow m log k → state_after p (reactions p m log k) ≡ Some (states_in m (chip_after log k))

-- The port writes after k steps are those of the setups, those of the reactions to the commits in order, and these at the
-- end.
abbrev pub PutsAre : ProgramTree → Map → Log → ℕ → List PortWrite → Type 0
PutsAre p m log k end =
    (values : List (List ℕ)) × (ports_after p (reactions p m log k) ≡ Some values) × (port_writes log k ≡ setup_puts p ++ (flat_map (reaction_puts p) values ++ end))

-- From the ready boundary on, where no window stands open, nothing else was put; in a window of an event a prefix of what
-- its reaction puts. Where a value is undefined this doesn't hold.
abbrev pub PutsAreSerial : ProgramTree → Map → Log → ℕ → Type 0
PutsAreSerial p m log n = (r k : ℕ) → ReadyAt m log n r → r ≤ k → k ≤ n →
    (NoWindow m log k → PutsAre p m log k [])
    × ((e : List ℕ) → Window m log k e →
    (state : List ℕ) × (reaction : Reaction) × (i : ℕ)
    × (state_after p (reactions p m log k) ≡ Some state) × (react p state (window_samples p m log e k) e ≡ Some reaction) × PutsAre p m log k (take i (reaction_puts p reaction.ports)))

-- Before it, a prefix of the setups' writes was put.
abbrev pub BootPutsSetups : ProgramTree → Map → Log → ℕ → Type 0
BootPutsSetups p m log n = (k : ℕ) → k ≤ n → BeforeReady m log n k → (i : ℕ) × (port_writes log k ≡ take i (setup_puts p))

-- The port that an input reads, by the input's name.
abbrev pub port_read : BehaviourTree → Option ℕ
port_read (Plain e) = None
port_read (Input port) = port_at port
port_read (Table entries) = None
port_read (Reactive init clauses) = None

abbrev pub input_port : ProgramTree → List ℕ → Option ℕ
input_port p input = option_and_then (λ d. port_read d.behaviour) (decl_named p.decls input)

-- The sampling of an input before the window of an event that opens at step s: the last step t before s that ran the
-- address at which the event samples it. From t to s nothing commits and the event's flag isn't cleared, so that t comes
-- after the last clearing before s. W after step t is what the input's port reads after the arrivals of boundary t.
pub record IsSampled (p : ProgramTree) (m : Map) (log : Log) (e : MapEvent) (input : List ℕ) (s : ℕ) : Type 0 where
  pub address : ℕ
  pub port : ℕ
  pub t : ℕ
  pub listed : sample_at m e.name input ≡ Some address
  pub of_port : input_port p input ≡ Some port
  pub before : t < s
  pub ran : ran_at address (log t) ≡ true
  pub last : (k : ℕ) → t < k → k < s → ran_at address (log k) ≡ false
  pub uncommitted : (k : ℕ) → t ≤ k → k ≤ s → committed_by m (log k) ≡ []
  pub uncleared : (k : ℕ) → t ≤ k → k ≤ s → clears e.source (log k) ≡ false
  pub value : (log t).after.w ≡ read (Port port) (log t).arrived.regs

-- Each window has a sample of each input that its event needs.
abbrev pub WindowsAreSampled : ProgramTree → Map → Log → ℕ → Type 0
WindowsAreSampled p m log n = (s : ℕ) → s < n →
    AllByRecursion (λ (e : MapEvent). ran_at e.«open» (log s) ≡ true → AllByRecursion (λ input. IsSampled p m log e input s) (inputs_needed p e.name)) m.events

-- Serial reactions, over the first n steps: the chip comes to its ready boundary in time, windows open and close in turn, and
-- what is committed and put is the serial run of the reactions, each to the samples of its window. Read with Names and IsMap:
-- each output has a port then, and a step opens or commits one event at most.
pub record Follows (p : ProgramTree) (m : Map) (log : Log) (n : ℕ) : Type 0 where
  pub ready : ReadyInTime p m log n
  pub quiet : BootIsQuiet m log n
  pub turns : Alternates m log n
  pub undisturbed : NoTakingInside m log n
  pub closes : ClosesInTime p m log n
  pub states : StatesAreSerial p m log n
  pub puts : PutsAreSerial p m log n
  pub setups : BootPutsSetups p m log n
  pub samples : WindowsAreSampled p m log n
