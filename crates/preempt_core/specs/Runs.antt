-- Lists of steps, judged by what stands in them: which steps are allowed, and what each answers.
use Rattle.std.specs.Prelude.{ℕ, zero, suc, ◌==◌, Bool, true, false, ◌&&◌, ◌||◌, not, nat_lt, List, [], ◌∷◌, length, slice_index, Option, Some, None, if◌then◌else◌}
use Rattle.preempt_core.specs.declared.steps.Step.{Step}
use Rattle.preempt_core.specs.declared.steps.Step.TheVariants as steps
use Rattle.preempt_core.specs.declared.steps.Done.{Done}
use Rattle.preempt_core.specs.declared.steps.Done.TheVariants as answers

-- A run: its event; how many steps stood in the list when it last began, its beginning counted; the state that stood then;
-- and whether it has committed.
pub record Active : Type 0 where
  pub event : ℕ
  pub began : ℕ
  pub read : List ℕ
  pub committed : Bool

-- What a list of steps has come to: the answers, the last first; the events that wait; the runs, the top one first; how many
-- steps stood in the list at the last commit, it counted; and the state, by what each run that committed had read.
pub record Told : Type 0 where
  pub answers : List Done
  pub latched : ℕ → Bool
  pub stack : List Active
  pub last : ℕ
  pub state : List ℕ

abbrev pub priority : List ℕ → ℕ → ℕ
priority priorities e = slice_index priorities e

-- The priority of the top run, 0 where there is none.
abbrev pub top_priority : List ℕ → List Active → ℕ
top_priority priorities [] = 0
top_priority priorities (r ∷ rs) = priority priorities r.event

-- The first n events: of those that wait the one of the highest priority, and the first in declaration order among equals.
abbrev pub more_urgent : List ℕ → ℕ → Option ℕ → Option ℕ
more_urgent priorities e None = Some e
more_urgent priorities e (Some best) = if nat_lt (priority priorities best) (priority priorities e) then Some e else Some best

abbrev pub most_urgent : List ℕ → (ℕ → Bool) → ℕ → Option ℕ
most_urgent priorities latched zero = None
most_urgent priorities latched (suc n) =
    if latched n then more_urgent priorities n (most_urgent priorities latched n) else most_urgent priorities latched n

-- A run is void where another has committed since it last began.
abbrev pub is_void : ℕ → Active → Bool
is_void last r = nat_lt r.began last && not r.committed

-- One event more, or less, waits.
abbrev pub with_latch : (ℕ → Bool) → ℕ → Bool → ℕ → Bool
with_latch latched e b x = if x == e then b else latched x

abbrev pub answer : Told → Done → Told
answer t d = record t { answers = d ∷ t.answers }

-- A new run reads the state that stands.
abbrev pub begins : Told → ℕ → Active
begins t e = record { event = e; began = suc (length t.answers); read = t.state; committed = false }

abbrev pub taken : List ℕ → Told → Option ℕ → Option Told
taken priorities t None = None
taken priorities t (Some e) =
    if nat_lt (top_priority priorities t.stack) (priority priorities e)
    then Some (record t { answers = answers.Took e ∷ t.answers; latched = with_latch t.latched e false; stack = begins t e ∷ t.stack })
    else None

abbrev pub is_left : List Active → Bool
is_left [] = false
is_left (r ∷ rs) = r.committed

-- The events that committed, by the answers.
abbrev pub committed_in : List Done → List ℕ
committed_in [] = []
committed_in (answers.Committed e ∷ ds) = e ∷ committed_in ds
committed_in (d ∷ ds) = committed_in ds

-- What a step comes to; None where it isn't allowed. A commit's reaction goes by how many commits there were before, the state
-- that the run read, and the event.
abbrev pub top_step : (ℕ → List ℕ → ℕ → List ℕ) → Told → Step → List Active → Option Told
top_step react t s [] = None
top_step react t steps.Work (r ∷ rs) = if r.committed then None else Some (answer t answers.Worked)
top_step react t steps.Redo (r ∷ rs) = if is_void t.last r then Some (record t { answers = answers.Redone r.event ∷ t.answers; stack = begins t r.event ∷ rs }) else None
top_step react t steps.Commit (r ∷ rs) =
    if r.committed || is_void t.last r
    then None
    else Some (record t { answers = answers.Committed r.event ∷ t.answers; stack = record r { committed = true } ∷ rs; last = suc (length t.answers); state = react (length (committed_in t.answers)) r.read r.event })
top_step react t steps.Resume (r ∷ rs) = if r.committed then Some (record t { answers = answers.Resumed ∷ t.answers; stack = rs }) else None
top_step react t _ _ = None

abbrev pub arrived : List ℕ → Told → ℕ → Option Told
arrived priorities t e =
    if nat_lt e (length priorities)
    then Some (if t.latched e then answer t (answers.Merged e) else record t { answers = answers.Latched e ∷ t.answers; latched = with_latch t.latched e true })
    else None

abbrev pub step_from : List ℕ → (ℕ → List ℕ → ℕ → List ℕ) → Told → Step → Option Told
step_from priorities react t (steps.Arrive e) = arrived priorities t e
step_from priorities react t steps.Take = if is_left t.stack then None else taken priorities t (most_urgent priorities t.latched (length priorities))
step_from priorities react t s = top_step react t s t.stack

-- At first nothing waits and nothing is under way.
abbrev pub start : List ℕ → Told
start state = record { answers = []; latched = λ x. false; stack = []; last = 0; state = state }

-- What a list of steps, the last first, has come to from a first state; None where one of them isn't allowed.
abbrev pub then_step : List ℕ → (ℕ → List ℕ → ℕ → List ℕ) → Option Told → Step → Option Told
then_step priorities react None s = None
then_step priorities react (Some t) s = step_from priorities react t s

abbrev pub told : List ℕ → (ℕ → List ℕ → ℕ → List ℕ) → List ℕ → List Step → Option Told
told priorities react first [] = Some (start first)
told priorities react first (s ∷ before) = then_step priorities react (told priorities react first before) s
