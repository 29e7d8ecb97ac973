-- All have reacted some time after the last arrival.
use Rattle.std.specs.Prelude.{◌≡◌, ℕ, ◌+◌, ◌-◌, ◌*◌, ◌<◌, ◌≤◌, true, false, sum_by}
use Rattle.timed_core.specs.Timing.{Timing}
use Rattle.timed_core.specs.Steps.Phase.{Rests}
use Rattle.timed_core.specs.Tale.{Tale}

-- In steps: from the last arrival until all have reacted, by the body that each event's code is given and `off`.
abbrev pub settle_steps : Timing → ℕ → ℕ
settle_steps p off = p.boot + 2 + sum_by (λ e. 3 * (p.body e - p.spare) + 4 * off) p.events

-- n steps are long enough, counted from power-on and from each boundary before with an arrival.
abbrev pub IsQuiet : (p : Timing) → Tale p → ℕ → ℕ → Type 0
IsQuiet p tale settle n = (settle ≤ n) × ((k x : ℕ) → k < n → tale.arrives k x ≡ true → k + settle ≤ n)

-- After n steps no flag is set, and the core is at rest.
pub record IsSettled (p : Timing) (tale : Tale p) (n : ℕ) : Type 0 where
  pub rests : tale.phase n ≡ Rests
  pub clear : (x : ℕ) → 0 < p.level x → tale.flags n x ≡ false

abbrev pub Settles : (p : Timing) → Tale p → ℕ → Type 0
Settles p tale off = (n : ℕ) → IsQuiet p tale (settle_steps p off) n → IsSettled p tale n
