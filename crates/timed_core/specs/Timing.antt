-- Events, their levels, and bounds in steps on the code that treats them.
use Rattle.std.specs.Prelude.{◌≡◌, ℕ, ◌+◌, ◌*◌, ◌≤◌, ◌==◌, Bool, true, List, count_by, nat_lt, if◌then◌else◌}

-- Events are numbers, listed in declaration order. The level of an event is its priority, from 1; all other numbers have
-- level 0. Each bound on a phase means the present step and at most so many more.
pub record Timing : Type 0 where
  pub events : List ℕ
  pub level : ℕ → ℕ
  -- From the start of an event's work to its lock.
  pub body : ℕ → ℕ
  -- From power-on to the ready boundary.
  pub boot : ℕ
  -- From a taking to the clearing of an event's flag, and from there to the step that turns interrupts on.
  pub choose : ℕ
  pub start : ℕ
  -- From the lock to the step that turns interrupts on again, or to the open.
  pub again : ℕ
  pub opening : ℕ
  -- From the open to the commit, and from there to the return.
  pub copying : ℕ
  pub exiting : ℕ
  -- From the return behind a lock to that lock again.
  pub retry : ℕ
  -- The steps of a run's way to its work, which stand in `body` beside those that the event's code is given.
  pub spare : ℕ
  -- Whether events of the highest level may be treated with interrupts off throughout.
  pub short : Bool

-- Each event is listed once, and nothing else is.
abbrev pub IsListed : Timing → Type 0
IsListed p = (x : ℕ) → count_by (λ y. y == x) p.events ≡ (if nat_lt 0 (p.level x) then 1 else 0)

-- The bounds are within `off`, the number of steps that interrupts may be off.
pub record Within (p : Timing) (off : ℕ) : Type 0 where
  pub taking : p.choose + p.start + 4 + p.retry ≤ off
  pub short : p.short ≡ true → p.choose + p.start + p.copying + p.exiting + p.retry + 6 ≤ off
  pub again : p.again + 2 + p.spare ≤ off
  pub commit : p.opening + p.copying + p.exiting + 4 ≤ off
  pub sum : 2 * (p.choose + p.start + 4 + p.retry) + (p.again + 2) + 2 * (p.opening + p.copying + p.exiting + 4) + p.retry + 3 * p.spare ≤ 4 * off
  pub pair : (p.choose + p.start + 4 + p.retry) + (p.opening + p.copying + p.exiting + 4) + p.spare ≤ 2 * off
  pub order : p.again + 2 ≤ p.choose + p.start + 4 + p.retry

-- Work opens in time.
pub record Quick (p : Timing) : Type 0 where
  pub start : p.start ≤ 14
  pub again : p.again ≤ 14
  pub opening : p.opening ≤ 15
