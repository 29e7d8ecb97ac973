-- A tale: what the core does at each boundary, from power-on, for any arrivals.
use Rattle.std.specs.Prelude.{◌≡◌, ℕ, suc, ◌<◌, Bool, true, false, ◌&&◌, ◌||◌, not, ◌==◌, List, []}
use Rattle.timed_core.specs.Timing.{Timing}
use Rattle.timed_core.specs.Steps.{Run, Phase, Label, at, Step}
use Rattle.timed_core.specs.Steps.Phase.{Boots}
use Rattle.timed_core.specs.Steps.Label.{Clears}

-- A step clears the flag of an event.
abbrev pub is_clearing : ℕ → Label → Bool
is_clearing x (Clears h) = x == h
is_clearing x _ = false

-- After each number of steps: the flags, the phase, the stack; at each boundary: what arrives, and the step.
pub record Tale (p : Timing) : Type 0 where
  pub flags : ℕ → ℕ → Bool
  pub arrives : ℕ → ℕ → Bool
  pub phase : ℕ → Phase
  pub stack : ℕ → List Run
  pub label : ℕ → Label
  pub starts : phase 0 ≡ Boots p.boot
  pub empty : stack 0 ≡ []
  pub clear : (x : ℕ) → flags 0 x ≡ false
  pub real : (n x : ℕ) → arrives n x ≡ true → 0 < p.level x
  pub goes : (n : ℕ) → Step p (λ x. flags n x || arrives n x) (phase n) (label n) (stack n) (at (phase (suc n)) (stack (suc n)))
  pub keeps : (n x : ℕ) → flags (suc n) x ≡ ((flags n x || arrives n x) && not (is_clearing x (label n)))

-- The flags at a boundary: after what arrives and before the step.
abbrev pub now : {p : Timing} → Tale p → ℕ → ℕ → Bool
now tale n x = tale.flags n x || tale.arrives n x
