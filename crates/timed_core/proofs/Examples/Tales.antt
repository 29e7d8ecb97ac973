-- A tale of one event: it arrives at boundary 1, interrupts the core at rest, is locked, opens, commits and returns.
use Rattle.std.specs.Prelude.{ℕ, zero, suc, ◌<◌, ◌==◌, Bool, true, false, ◌&&◌, ◌||◌, not, List, [], ◌∷◌, if◌then◌else◌}
use Rattle.std.proofs.Common.{◌≡◌, refl, arith}
use Rattle.std.proofs.lemmas.Bool.Decides.{nat_tests}
use Rattle.timed_core.specs.Timing.{Timing, Quick}
use Rattle.timed_core.specs.Steps.{Run, Phase, Label, fresh, at, Above, Best, Step}
use Rattle.timed_core.specs.Steps.Phase.{Boots, Rests, Works, Chooses, Begins, Nears, Copies, Leaves}
use Rattle.timed_core.specs.Steps.Label.{Stays, Readies, Takes, Clears, Turns, Locks, Opens, Commits, Returns}
use Rattle.timed_core.specs.Tale.{Tale, is_clearing}

-- Event 0 alone, of level 1.
abbrev only_zero : Timing
only_zero =
    record {
      events = 0 ∷ [];
      level = λ x. if x == 0 then 1 else 0;
      body = λ x. 2;
      boot = 1;
      choose = 0;
      start = 0;
      again = 0;
      opening = 0;
      copying = 0;
      exiting = 0;
      retry = 0;
      spare = 0;
      short = false;
    }

abbrev arrives : ℕ → ℕ → Bool
arrives (suc zero) x = x == 0
arrives _ x = false

abbrev label : ℕ → Label
label zero = Readies
label (suc zero) = Takes
label (suc (suc zero)) = Clears 0
label (suc (suc (suc zero))) = Turns
label (suc (suc (suc (suc zero)))) = Locks
label (suc (suc (suc (suc (suc zero))))) = Opens 0
label (suc (suc (suc (suc (suc (suc zero)))))) = Commits 0
label (suc (suc (suc (suc (suc (suc (suc zero))))))) = Returns
label _ = Stays

abbrev flags : ℕ → ℕ → Bool
flags zero x = false
flags (suc n) x = (flags n x || arrives n x) && not (is_clearing x (label n))

abbrev phase : ℕ → Phase
phase zero = Boots 1
phase (suc zero) = Rests
phase (suc (suc zero)) = Chooses 0 (λ x. flags 1 x || arrives 1 x)
phase (suc (suc (suc zero))) = Begins 0
phase (suc (suc (suc (suc zero)))) = Works
phase (suc (suc (suc (suc (suc zero))))) = Nears 0
phase (suc (suc (suc (suc (suc (suc zero)))))) = Copies 0
phase (suc (suc (suc (suc (suc (suc (suc zero))))))) = Leaves 0 0
phase _ = Rests

abbrev stack : ℕ → List Run
stack (suc (suc (suc zero))) = fresh only_zero 0 ∷ []
stack (suc (suc (suc (suc zero)))) = fresh only_zero 0 ∷ []
stack (suc (suc (suc (suc (suc zero))))) = fresh only_zero 0 ∷ []
stack (suc (suc (suc (suc (suc (suc zero)))))) = fresh only_zero 0 ∷ []
stack _ = []

low : (x : ℕ) → 1 < only_zero.level x → ⊥
low x = by (x == 0)
  where
    by : (b : Bool) → 1 < (if b then 1 else 0) → ⊥
    by true h = absurd (omega arith)
    by false h = absurd (omega arith)

best : (g : ℕ → Bool) → Best only_zero g 0
best g x set up other = absurd (by (x == 0) refl up)
  where
    by : (b : Bool) → (x == 0) ≡ b → 0 < (if b then 1 else 0) → ⊥
    by true h up = other (grind (arith, nat_tests))
    by false h up = absurd (omega arith)

-- Its flag is clear from boundary 3 on.
clear : (n x : ℕ) → flags (suc (suc (suc n))) x ≡ false
clear zero x = by (x == 0)
  where
    by : (b : Bool) → ((((false || b) && true) || false) && not b) ≡ false
    by true = refl
    by false = refl
clear (suc n) x = rw (clear n x) refl

rests : (n : ℕ) → Above only_zero (λ x. flags (suc (suc (suc n))) x || false) 0 → ⊥
rests n (x, set, up) = let none = clear n x in absurd cc

goes : (n : ℕ) → Step only_zero (λ x. flags n x || arrives n x) (phase n) (label n) (stack n) (at (phase (suc n)) (stack (suc n)))
goes zero = refl
goes (suc zero) = ((0, refl, omega arith), refl)
goes (suc (suc zero)) = (refl, best (λ x. flags 1 x || arrives 1 x), omega arith, refl)
goes (suc (suc (suc zero))) = refl
goes (suc (suc (suc (suc zero)))) = (λ above. low above.0 above.2, refl)
goes (suc (suc (suc (suc (suc zero))))) = (refl, refl)
goes (suc (suc (suc (suc (suc (suc zero)))))) = (refl, refl)
goes (suc (suc (suc (suc (suc (suc (suc zero))))))) = refl
goes (suc (suc (suc (suc (suc (suc (suc (suc n)))))))) = (rests (suc (suc (suc (suc (suc n))))), refl)

real : (n x : ℕ) → arrives n x ≡ true → 0 < only_zero.level x
real (suc zero) x h = rw h (omega arith)
real zero x h = absurd cc
real (suc (suc n)) x h = absurd cc

tale : Tale only_zero
tale =
    record {
      flags = flags;
      arrives = arrives;
      phase = phase;
      stack = stack;
      label = label;
      starts = refl;
      empty = refl;
      clear = λ x. refl;
      real = real;
      goes = goes;
      keeps = λ n x. refl;
    }

quick_at_14_14_15 : Quick (record only_zero { start = 14; again = 14; opening = 15 })
quick_at_14_14_15 = record { start = omega arith; again = omega arith; opening = omega arith }

not_quick_with_start_15 : (p : Timing) → p.start ≡ 15 → Quick p → ⊥
not_quick_with_start_15 p h quick = absurd (omega arith)

not_quick_with_again_15 : (p : Timing) → p.again ≡ 15 → Quick p → ⊥
not_quick_with_again_15 p h quick = absurd (omega arith)

not_quick_with_opening_16 : (p : Timing) → p.opening ≡ 16 → Quick p → ⊥
not_quick_with_opening_16 p h quick = absurd (omega arith)
