-- What holds of each list of allowed steps: priorities rise, each latch is treated once, and what was committed is one serial
-- run.
use Rattle.std.specs.Prelude.{◌≡◌, ℕ, ◌+◌, ◌<◌, ◌==◌, Bool, false, ◌&&◌, not, List, [], ◌∷◌, length, Some, if◌then◌else◌}
use Rattle.preempt_core.specs.declared.steps.Step.{Step}
use Rattle.preempt_core.specs.declared.steps.Done.{Done}
use Rattle.preempt_core.specs.declared.steps.Done.TheVariants as answers
use Rattle.preempt_core.specs.Runs.{Active, Told, priority, top_priority, is_void, committed_in, told}

abbrev pub one : Bool → ℕ
one b = if b then 1 else 0

abbrev pub is_latch : ℕ → Done → Bool
is_latch x (answers.Latched e) = x == e
is_latch x _ = false

abbrev pub is_commit : ℕ → Done → Bool
is_commit x (answers.Committed e) = x == e
is_commit x _ = false

-- How many of the answers pass a test.
abbrev pub count : (Done → Bool) → List Done → ℕ
count test [] = 0
count test (d ∷ ds) = one (test d) + count test ds

-- The runs of an event that haven't committed.
abbrev pub uncommitted : ℕ → List Active → ℕ
uncommitted x [] = 0
uncommitted x (r ∷ rs) = one (x == r.event && not r.committed) + uncommitted x rs

-- The reactions to the events that committed, in order, from the first state.
abbrev pub serial : (ℕ → List ℕ → ℕ → List ℕ) → List ℕ → List Done → List ℕ
serial react first [] = first
serial react first (answers.Committed e ∷ before) = react (length (committed_in before)) (serial react first before) e
serial react first (d ∷ before) = serial react first before

-- The priorities rise strictly from the bottom to the top.
abbrev pub Rising : List ℕ → List Active → Type 0
Rising priorities [] = Unit {0}
Rising priorities (r ∷ rs) = (top_priority priorities rs < priority priorities r.event) × Rising priorities rs

-- A run that hasn't committed and isn't void has read the state that stands.
abbrev pub ReadsPresent : ℕ → List ℕ → List Active → Type 0
ReadsPresent last state [] = Unit {0}
ReadsPresent last state (r ∷ rs) = (r.committed ≡ false → is_void last r ≡ false → r.read ≡ state) × ReadsPresent last state rs

-- What holds after a list of allowed steps.
pub record Lawful (priorities : List ℕ) (react : ℕ → List ℕ → ℕ → List ℕ) (first : List ℕ) (t : Told) : Type 0 where
  pub rising : Rising priorities t.stack
  pub once : (x : ℕ) → count (is_latch x) t.answers ≡ count (is_commit x) t.answers + one (t.latched x) + uncommitted x t.stack
  pub present : ReadsPresent t.last t.state t.stack
  pub is_serial : t.state ≡ serial react first t.answers

abbrev pub AlwaysLawful : Type 0
AlwaysLawful = (priorities : List ℕ) (react : ℕ → List ℕ → ℕ → List ℕ) (first : List ℕ) (steps : List Step) (t : Told) → told priorities react first steps ≡ Some t → Lawful priorities react first t
