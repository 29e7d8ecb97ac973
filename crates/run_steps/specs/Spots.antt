-- The places of a run, counted from its start.
use Rattle.std.specs.Prelude.{ℕ, ◌+◌, ◌-◌, Bool, true, false, if◌then◌else◌, List, [], ◌∷◌, length, not, ◌&&◌}
use Rattle.code_steps.specs.declared.banks.Bank.{Bank}
use Rattle.code_steps.specs.declared.banks.Bank.TheVariants.{Known}
use Rattle.glue_steps.specs.declared.lines.Line.{Line}
use Rattle.glue_parts.specs.declared.kept.TheConstants.{REDO}
use Rattle.glue_parts.specs.Pieces.{bank_of_flag, lines_for}
use Rattle.scratch_commit.specs.declared.kinds.Kind.{Kind}
use Rattle.scratch_commit.specs.declared.kinds.Kind.TheVariants.{Short, Long}
use Rattle.scratch_commit.specs.Deeds.{Deed, Choose, Write, bank_past, lines_in}
use Rattle.scratch_commit.specs.Plans.{Plan, bank_at_window, entering, frame_in, masks_in, over_idle, returning}
use Rattle.scratch_commit.specs.Windows.{window}

-- Interrupts are on in its work, and a lock stands behind it.
abbrev pub is_locked : Kind → Bool
is_locked Short = false
is_locked Long = false
is_locked _ = true

-- Its deeds: before the clearing of its flag; of its window; behind its commit.
abbrev pub entering_in : Plan → List Deed
entering_in plan = entering plan.kind (masks_in plan) (frame_in plan)

abbrev pub moves_in : Plan → List Deed
moves_in plan = window plan.moves (not (over_idle plan))

abbrev pub returning_in : Plan → List Deed
returning_in plan = returning (masks_in plan) (frame_in plan) (plan.spread.pages && over_idle plan)

-- The bank at its open, and behind its commit.
abbrev pub open_bank : Plan → Bank
open_bank plan = bank_at_window plan.kind plan.source plan.bank

abbrev pub exit_bank : Plan → Bank
exit_bank plan = bank_past (open_bank plan) (moves_in plan)

-- The choice of bank 0 before the clearing of the flag of a short run.
abbrev pub before_flag : Plan → List Line
before_flag plan = lines_for plan.bank (bank_of_flag plan.source)

-- What is done before interrupts go on for work with a lock.
abbrev pub restarting : List Deed
restarting = Choose 0 ∷ Write REDO 0 ∷ []

-- The words of the lock: a jump has three where there are page settings.
abbrev pub lock_words : (paged : Bool) → ℕ
lock_words paged = if paged then 9 else 5

-- Its places: where it starts; the clearing of its flag; the step that turns interrupts on; its work and its lock; its open and its
-- commit; and the return. A short run has no step that turns interrupts on and no lock: those places aren't used.
pub record Spots : Type 0 where
  pub entry : ℕ
  pub clear : ℕ
  pub on : ℕ
  pub work : ℕ
  pub lock : ℕ
  pub opens : ℕ
  pub commits : ℕ
  pub stops : ℕ

-- From the open on.
abbrev pub spots_from : (entry clear on work lock opens : ℕ) → Plan → Spots
spots_from entry clear on work lock opens plan = record {
  entry = entry;
  clear = clear;
  on = on;
  work = work;
  lock = lock;
  opens = opens;
  commits = opens + length (lines_in (open_bank plan) (moves_in plan)) - 1;
  stops = opens + length (lines_in (open_bank plan) (moves_in plan)) + length (lines_in (exit_bank plan) (returning_in plan));
}

abbrev pub short_spots : (start : ℕ) → Plan → Spots
short_spots start plan =
    let clear = start + length plan.work + length (before_flag plan) in spots_from start clear clear start clear (clear + 1) plan

abbrev pub long_spots : (start : ℕ) → Plan → Spots
long_spots start plan =
    let clear = start + length (lines_in (Known 0) (entering_in plan)) in
    let work = clear + 2 in
    let lock = work + length plan.work in spots_from start clear (clear + 1) work lock (lock + 1) plan

abbrev pub locked_spots : (paged : Bool) (start : ℕ) → Plan → Spots
locked_spots paged start plan =
    let clear = start + length (lines_in (Known 0) (entering_in plan)) in
    let on = clear + 1 + length (lines_in plan.bank restarting) in
    let work = on + 1 in
    let lock = work + length plan.work in spots_from start clear on work lock (lock + lock_words paged) plan

abbrev pub spots_by : Kind → (paged : Bool) (start : ℕ) → Plan → Spots
spots_by Short paged start plan = short_spots start plan
spots_by Long paged start plan = long_spots start plan
spots_by _ paged start plan = locked_spots paged start plan

abbrev pub spots_of : (paged : Bool) (start : ℕ) → Plan → Spots
spots_of paged start plan = spots_by plan.kind paged start plan
