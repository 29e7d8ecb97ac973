-- The core with a mark a run in place of looking back: what a step answers, and what it leaves.
use Rattle.std.specs.Prelude.{◌≡◌, ℕ, Bool, true, false, ◌||◌, nat_lt, List, [], ◌∷◌, map, length, Option, Some, None, if◌then◌else◌}
use Rattle.preempt_core.specs.declared.steps.Step.{Step}
use Rattle.preempt_core.specs.declared.steps.Step.TheVariants as steps
use Rattle.preempt_core.specs.declared.steps.Done.{Done}
use Rattle.preempt_core.specs.declared.steps.Done.TheVariants as answers
use Rattle.preempt_core.specs.Runs.{Active, Told, priority, most_urgent, is_void, with_latch, told}

-- A run: its event, whether it is void, and whether it has committed.
pub record Mark : Type 0 where
  pub event : ℕ
  pub void : Bool
  pub committed : Bool

-- The events that wait, and the runs, the top one first.
pub record Marked : Type 0 where
  pub latched : ℕ → Bool
  pub runs : List Mark

pub record Answered : Type 0 where
  pub answer : Done
  pub core : Marked

abbrev pub mark_priority : List ℕ → List Mark → ℕ
mark_priority priorities [] = 0
mark_priority priorities (m ∷ ms) = priority priorities m.event

abbrev pub leaves : Done → Marked → Option Answered
leaves d core = Some (record { answer = d; core = core })

abbrev pub fresh_mark : ℕ → Mark
fresh_mark e = record { event = e; void = false; committed = false }

abbrev pub take_marked : List ℕ → Marked → Option ℕ → Option Answered
take_marked priorities c None = None
take_marked priorities c (Some e) =
    if nat_lt (mark_priority priorities c.runs) (priority priorities e)
    then leaves (answers.Took e) (record { latched = with_latch c.latched e false; runs = fresh_mark e ∷ c.runs })
    else None

abbrev pub mark_is_left : List Mark → Bool
mark_is_left [] = false
mark_is_left (m ∷ ms) = m.committed

abbrev pub top_marked : Marked → Step → List Mark → Option Answered
top_marked c s [] = None
top_marked c steps.Work (m ∷ ms) = if m.committed then None else leaves answers.Worked c
top_marked c steps.Redo (m ∷ ms) = if m.void then leaves (answers.Redone m.event) (record c { runs = fresh_mark m.event ∷ ms }) else None
top_marked c steps.Commit (m ∷ ms) =
    if m.committed || m.void
    then None
    else leaves (answers.Committed m.event) (record c { runs = record m { committed = true } ∷ map (λ (b : Mark). record b { void = true }) ms })
top_marked c steps.Resume (m ∷ ms) = if m.committed then leaves answers.Resumed (record c { runs = ms }) else None
top_marked c _ _ = None

abbrev pub arrived_marked : List ℕ → Marked → ℕ → Option Answered
arrived_marked priorities c e =
    if nat_lt e (length priorities)
    then (if c.latched e then leaves (answers.Merged e) c else leaves (answers.Latched e) (record c { latched = with_latch c.latched e true }))
    else None

-- What a step answers and leaves; None where it isn't allowed.
abbrev pub marked_step : List ℕ → Marked → Step → Option Answered
marked_step priorities c (steps.Arrive e) = arrived_marked priorities c e
marked_step priorities c steps.Take = if mark_is_left c.runs then None else take_marked priorities c (most_urgent priorities c.latched (length priorities))
marked_step priorities c s = top_marked c s c.runs

-- The marks of what a list of steps has come to.
abbrev pub mark_of : ℕ → Active → Mark
mark_of last r = record { event = r.event; void = is_void last r; committed = r.committed }

abbrev pub marks_of : Told → Marked
marks_of t = record { latched = t.latched; runs = map (mark_of t.last) t.stack }

-- The answer to the last step, with the marks.
abbrev pub last_answer : List Done → Marked → Option Answered
last_answer [] c = None
last_answer (d ∷ ds) c = leaves d c

abbrev pub answered : Told → Option Answered
answered t = last_answer t.answers (marks_of t)

abbrev pub answered_if : Option Told → Option Answered
answered_if None = None
answered_if (Some t) = answered t

-- After each list of allowed steps, a step by marks is the step by looking back: it is allowed where that is, answers the
-- same, and leaves the same marks.
abbrev pub MarksLookBack : Type 0
MarksLookBack = (priorities : List ℕ) (react : ℕ → List ℕ → ℕ → List ℕ) (first : List ℕ) (before : List Step) (t : Told) (s : Step) → told priorities react first before ≡ Some t
    → marked_step priorities (marks_of t) s ≡ answered_if (told priorities react first (s ∷ before))
