-- What every tale keeps: each latch is treated once, windows open and close in turn, the boot ends, interrupts come on,
-- events are heard, work opens, and none overtakes a more urgent one.
use Rattle.std.specs.Prelude.{◌≡◌, ℕ, ◌+◌, ◌-◌, ◌<◌, ◌≤◌, Bool, true, false, ◌&&◌, ◌||◌, not, ◌++◌}
use Rattle.timed_core.specs.Timing.{Timing}
use Rattle.timed_core.specs.Steps.{Phase, Label, is_on, top_level}
use Rattle.timed_core.specs.Steps.Phase.{Boots, Rests}
use Rattle.timed_core.specs.Steps.Label.{Takes, Clears, Opens, Commits}
use Rattle.timed_core.specs.Tale.{Tale}
use Rattle.timed_core.specs.Counts.{one, latched, cleared, committed, runs_of, opens, commits, window}

-- Each latch of an event has committed, or waits in its flag, or is under way; and its flag was cleared for each that
-- committed or is under way, of which there is one at most.
pub record Accounts (p : Timing) (tale : Tale p) (x n : ℕ) : Type 0 where
  pub latches : latched tale x n ≡ committed tale x n + one (tale.flags n x) + runs_of x (tale.stack n)
  pub clearings : cleared tale x n ≡ committed tale x n + runs_of x (tale.stack n)
  pub once : runs_of x (tale.stack n) ≤ 1

abbrev pub EachOnce : (p : Timing) → Tale p → Type 0
EachOnce p tale = (n x : ℕ) → Accounts p tale x n

-- What opened has committed, but for the event whose window stands open.
abbrev pub OpensInTurn : (p : Timing) → Tale p → Type 0
OpensInTurn p tale = (n : ℕ) → opens tale n ≡ commits tale n ++ window (tale.phase n) (tale.stack n)

abbrev pub is_taking : Label → Bool
is_taking Takes = true
is_taking _ = false

abbrev pub is_boot : Phase → Bool
is_boot (Boots j) = true
is_boot _ = false

-- Each open is followed by the commit of the same event, within the steps of a copy, and no interrupt is taken between.
abbrev pub ClosesInTime : (p : Timing) → Tale p → Type 0
ClosesInTime p tale = (n e : ℕ) → tale.label n ≡ Opens e →
    (k : ℕ) × (n < k) × (k ≤ n + p.copying + 1) × (tale.label k ≡ Commits e) × ((j : ℕ) → n < j → j ≤ k → is_taking (tale.label j) ≡ false)

-- The boot ends in time, at rest, and doesn't come again.
pub record Ready (p : Timing) (tale : Tale p) : Type 0 where
  pub boundary : ℕ
  pub in_time : boundary ≤ p.boot + 1
  pub rests : tale.phase boundary ≡ Rests
  pub boots : (k : ℕ) → k < boundary → is_boot (tale.phase k) ≡ true
  pub past : (k : ℕ) → boundary ≤ k → is_boot (tale.phase k) ≡ false

-- Past the boot, interrupts are on at one of each `off + 1` boundaries.
abbrev pub ComesOn : (p : Timing) → Tale p → ℕ → Type 0
ComesOn p tale off = (n : ℕ) → is_boot (tale.phase n) ≡ false → (k : ℕ) × (n ≤ k) × (k ≤ n + off) × (is_on (tale.phase k) ≡ true)

-- An event is heard at one of them, where no event of its own or a higher level is under way at any.
abbrev pub Listens : (p : Timing) → Tale p → ℕ → Type 0
Listens p tale off = (n e : ℕ) → 0 < p.level e → is_boot (tale.phase n) ≡ false
    → ((k h : ℕ) → n ≤ k → k ≤ n + off → p.level e ≤ p.level h → runs_of h (tale.stack k) ≡ 0)
    → (k : ℕ) × (n ≤ k) × (k ≤ n + off) × (is_on (tale.phase k) ≡ true) × (top_level p (tale.stack k) < p.level e)

abbrev pub is_clear_step : Label → Bool
is_clear_step (Clears h) = true
is_clear_step _ = false

abbrev pub is_open_step : Label → Bool
is_open_step (Opens e) = true
is_open_step _ = false

-- After a step that clears a flag, or before which interrupts are on and which takes none, one of the next 16 has
-- interrupts on before it, or opens, or takes one.
abbrev pub WorkOpens : (p : Timing) → Tale p → Type 0
WorkOpens p tale = (k : ℕ) → (is_clear_step (tale.label k) || is_on (tale.phase k) && not (is_taking (tale.label k))) ≡ true
    → (j : ℕ) × (k < j) × (j ≤ k + 16) × ((is_on (tale.phase j) || is_open_step (tale.label j) || is_taking (tale.label j)) ≡ true)

-- Where an event opens, each event of a higher level has committed as often as it was latched 16 boundaries before.
abbrev pub NoOvertaking : (p : Timing) → Tale p → Type 0
NoOvertaking p tale = (s e h : ℕ) → tale.label s ≡ Opens e → p.level e < p.level h → latched tale h (s - 15) ≤ committed tale h s
