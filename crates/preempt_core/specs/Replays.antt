-- What a replay of a program over a list of steps answers.
use Rattle.std.specs.Prelude.{◌≡◌, ℕ, suc, ◌<◌, ◌++◌, Bool, true, false, List, [], ◌∷◌, length, map, filter, reverse, take, slice_index_or, Option, Some, None, Result, Ok, Err}
use Rattle.std.specs.List.{AllByRecursion, concat, zip}
use Rattle.frp_tree.specs.declared.syntax.Event.{Event}
use Rattle.frp_tree.specs.Tree.{ProgramTree}
use Rattle.efrp_meaning.specs.Decls.{inputs_of}
use Rattle.efrp_meaning.specs.Meaning.{State, Samples, Reaction, Occurrence, SerialRun, react, initial_state, serial}
use Rattle.efrp_types.specs.Numbers.{event_name}
use Rattle.reaction_model.specs.States.{HasTypes, numbers_of}
use Rattle.preempt_core.specs.declared.steps.Step.{Step}
use Rattle.preempt_core.specs.declared.steps.Step.TheVariants as steps
use Rattle.preempt_core.specs.declared.steps.Done.{Done}
use Rattle.preempt_core.specs.declared.steps.Done.TheVariants as answers
use Rattle.preempt_core.specs.declared.replays.Played.{Played}
use Rattle.preempt_core.specs.declared.replays.ReplayFault.{ReplayFault}
use Rattle.preempt_core.specs.declared.replays.ReplayFault.TheVariants.{NotAllowed, Memory}
use Rattle.preempt_core.specs.Runs.{Told, committed_in, told}

-- The priorities of a program's events, by number.
abbrev pub event_priorities : ProgramTree → List ℕ
event_priorities p = map (λ (e : Event). e.priority) p.events

-- How many of the steps are commits.
abbrev pub is_commit_step : Step → Bool
is_commit_step steps.Commit = true
is_commit_step _ = false

abbrev pub commit_steps : List Step → ℕ
commit_steps list = length (filter is_commit_step list)

-- Each of the lists has a byte for each input.
abbrev pub AreSampled : ProgramTree → List Samples → Type 0
AreSampled p samples = AllByRecursion (λ (j : Samples). length j ≡ length (inputs_of p)) samples

-- The samples of the k-th commit, counted from 0.
abbrev pub samples_at : List Samples → ℕ → Samples
samples_at samples k = slice_index_or samples k []

-- The state that a reaction leads to, and the empty one where it is undefined.
abbrev pub state_by : Option Reaction → State
state_by None = []
state_by (Some r) = r.state

-- The state after the k-th commit, which is of the event with this number, by the state that its run had read.
abbrev pub commit_state : ProgramTree → List Samples → ℕ → State → ℕ → State
commit_state p samples k read e = state_by (react p read (samples_at samples k) (event_name p e))

-- What the core of priorities has come to from a first state, after steps in order.
abbrev pub told_after : ProgramTree → List Samples → State → List Step → Option Told
told_after p samples first list = told (event_priorities p) (commit_state p samples) first (reverse list)

-- The occurrences of the committed events: the k-th with the k-th samples.
abbrev pub occurrences : ProgramTree → List ℕ → List Samples → List Occurrence
occurrences p commits samples = map (λ (c : ℕ × Samples). record { event = event_name p c.0; samples = c.1 }) (zip commits samples)

-- Each of the steps is allowed. The commits are the events that committed, in order; the state is what the commits have come
-- to, each by what its run had read when it last began, and also that of the serial run of the commits; the ports are the port
-- values of that run's reactions, one after another.
pub record IsPlayed (p : ProgramTree) (list : List Step) (samples : List Samples) (r : Played) : Type 0 where
  pub first : State
  pub initial : initial_state p ≡ Some first
  pub core : Told
  pub allowed : told_after p samples first list ≡ Some core
  pub commits : r.commits ≡ reverse (committed_in core.answers)
  pub reads : numbers_of r.state.values ≡ core.state
  pub run : SerialRun
  pub runs : serial p (occurrences p r.commits samples) ≡ Some run
  pub state : numbers_of r.state.values ≡ run.state
  pub ports : r.ports ≡ concat run.ports
  pub types : HasTypes p r.state.values

-- Step k, counted from 0, is the first that isn't allowed.
pub record IsFirstRefused (p : ProgramTree) (list : List Step) (samples : List Samples) (k : ℕ) : Type 0 where
  pub first : State
  pub initial : initial_state p ≡ Some first
  pub within : k < length list
  pub core : Told
  pub allowed : told_after p samples first (take k list) ≡ Some core
  pub refused : told_after p samples first (take (suc k) list) ≡ None

-- What a replay answers. It may be out of memory at any time.
abbrev pub Replays : ProgramTree → List Step → List Samples → Result Played ReplayFault → Type 0
Replays p list samples (Ok r) = IsPlayed p list samples r
Replays p list samples (Err (NotAllowed k)) = IsFirstRefused p list samples k
Replays p list samples (Err Memory) = Unit {0}

-- What one more commit, of the event with this number, makes of what was played.
pub record IsOneMore (p : ProgramTree) (samples : List Samples) (e : ℕ) (before after : Played) : Type 0 where
  pub ports : List ℕ
  pub reacts : react p (numbers_of before.state.values) (samples_at samples (length before.commits)) (event_name p e) ≡ Some (record { state = numbers_of after.state.values; ports = ports })
  pub commits : after.commits ≡ before.commits ++ e ∷ []
  pub puts : after.ports ≡ before.ports ++ ports
  pub types : HasTypes p after.state.values

-- What an answer of the core makes of what was played: a commit is one more, and all other answers change nothing.
abbrev pub Follows : ProgramTree → List Samples → Done → Played → Played → Type 0
Follows p samples (answers.Committed e) before after = IsOneMore p samples e before after
Follows p samples _ before after = after ≡ before

-- What a commit is asked for: samples for it, and an event with its number.
abbrev pub CanFollow : ProgramTree → List Samples → Done → Played → Type 0
CanFollow p samples (answers.Committed e) before = (length before.commits < length samples) × (e < length p.events)
CanFollow p samples _ before = Unit {0}
