-- What contracts see of the core as code: its priorities, which events wait, and the marks of its runs.
use Rattle.std.specs.Prelude.{◌≡◌, ℕ, ◌<◌, ◌≤◌, Bool, true, false, List, [], ◌∷◌, length, slice_index, slice_index_or, EachIndex, map, drop, Option, Some, None}
use Rattle.preempt_core.specs.declared.steps.Done.{Done}
use Rattle.preempt_core.specs.declared.runs.Run.{Run}
use Rattle.preempt_core.specs.Marks.{Mark, Marked, Answered, mark_priority}

-- The priorities of the events, by number; which of them wait; and the runs, the top one first.
pub record Standing : Type 0 where
  pub priorities : List ℕ
  pub latched : List Bool
  pub runs : List Mark

abbrev pub mark_run : Run → Mark
mark_run r = record { event = r.event; void = r.void; committed = r.committed }

abbrev pub voided : Run → Run
voided r = record r { void = true }

abbrev pub latch_of : List Bool → ℕ → Bool
latch_of latched e = slice_index_or latched e false

-- The core that it stands for.
abbrev pub core_of : Standing → Marked
core_of c = record { latched = latch_of c.latched; runs = c.runs }

abbrev pub answer_of : Option Answered → Option Done
answer_of None = None
answer_of (Some a) = Some a.answer

-- The core after a step, which is as before where the step isn't allowed.
abbrev pub core_after : Marked → Option Answered → Marked
core_after before None = before
core_after before (Some a) = a.core

-- At most 11 events, with priorities of at most 11.
pub record FewEvents (priorities : List ℕ) : Type 0 where
  pub few : length priorities ≤ 11
  pub low : EachIndex priorities (λ e. slice_index priorities e ≤ 11)

-- The priorities of the runs rise strictly from the bottom to the top.
abbrev pub MarksRise : List ℕ → List Mark → Type 0
MarksRise priorities [] = Unit {0}
MarksRise priorities (m ∷ ms) = (mark_priority priorities ms < slice_index priorities m.event) × MarksRise priorities ms

-- The marks of the runs from a place on.
abbrev pub marks_from : ℕ → List Run → List Mark
marks_from top runs = map mark_run (drop top runs)

-- What holds of the core's fields: eleven places for runs, of which those from the top one on are under way.
pub record InOrder (priorities : List ℕ) (top : ℕ) (runs : List Run) : Type 0 where
  pub events : FewEvents priorities
  pub within : top ≤ 11
  pub places : length runs ≡ 11
  pub rising : MarksRise priorities (marks_from top runs)
