-- The tie between a log of the chip and the core of lists.
use Rattle.std.specs.Prelude.{◌≡◌, ℕ, zero, suc, List, [], ◌∷◌, ◌++◌, map, reverse, Some, None}
use Rattle.frp_tree.specs.Tree.{ProgramTree}
use Rattle.efrp_meaning.specs.Meaning.{react, initial_state}
use Rattle.pic_machine.specs.Run.{Log}
use Rattle.map_file.specs.declared.maps.MapEvent.{MapEvent}
use Rattle.map_file.specs.declared.maps.Map.{Map}
use Rattle.preempt_core.specs.declared.steps.Done.{Done}
use Rattle.preempt_core.specs.declared.steps.Done.TheVariants as answers
use Rattle.preempt_core.specs.Runs.{Told, committed_in, told}
use Rattle.core_steps.specs.LogSteps.{clearing, committing, core_steps}

-- The priorities of the events, by number.
abbrev pub priorities_of : Map → List ℕ
priorities_of m = map (λ (e : MapEvent). e.priority) m.events

abbrev pub name_from : List MapEvent → ℕ → List ℕ
name_from [] x = []
name_from (e ∷ es) zero = e.name
name_from (e ∷ es) (suc x) = name_from es x

-- The state after the reaction to an event, without samples, however many commits there were before; the same state where the
-- reaction is undefined.
abbrev pub next_state : ProgramTree → Map → ℕ → List ℕ → ℕ → List ℕ
next_state p m k state e = elim (react p state [] (name_from m.events e)) [ Some r ↦ r.state | None ↦ state ]

-- The events that were taken, by the answers to a list of steps, the last first.
abbrev pub taken_in : List Done → List ℕ
taken_in [] = []
taken_in (answers.Took e ∷ ds) = e ∷ taken_in ds
taken_in (d ∷ ds) = taken_in ds

-- The events whose flag was cleared, and those whose commit address ran, in the first n steps, in order.
abbrev pub cleared_events : Map → Log → ℕ → List ℕ
cleared_events m log zero = []
cleared_events m log (suc n) = cleared_events m log n ++ clearing m (log n)

abbrev pub committed_events : Map → Log → ℕ → List ℕ
committed_events m log zero = []
committed_events m log (suc n) = committed_events m log n ++ committing m (log n)

-- The core's steps that the first n steps show are allowed, from this first state; each Take takes the event whose flag was
-- cleared, and each Commit commits the event whose commit address ran.
pub record IsTied (p : ProgramTree) (m : Map) (first : List ℕ) (log : Log) (n : ℕ) : Type 0 where
  pub core : Told
  pub allowed : told (priorities_of m) (next_state p m) first (core_steps m log n) ≡ Some core
  pub takes : reverse (taken_in core.answers) ≡ cleared_events m log n
  pub commits : reverse (committed_in core.answers) ≡ committed_events m log n

-- The program has an initial state, and the log is tied to the core from there.
abbrev pub Tied : ProgramTree → Map → Log → ℕ → Type 0
Tied p m log n = (first : List ℕ) × (initial_state p ≡ Some first) × IsTied p m first log n
