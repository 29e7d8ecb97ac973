-- The boot ends in time, and interrupts come on.
use Rattle.std.specs.Prelude.{ℕ, zero, suc, ◌+◌, ◌-◌, ◌<◌, ◌≤◌, Bool, true, false, List, ◌⊎◌, if◌then◌else◌}
use Rattle.std.proofs.Common.{◌≡◌, refl, ap, subst, arith, inl, inr}
use Rattle.timed_core.specs.Timing.{Timing, Within}
use Rattle.timed_core.specs.Steps.{Run, Phase, Label, locked, is_on}
use Rattle.timed_core.specs.Steps.Phase.{Boots, Rests, Works, Owes, Chooses, Begins, Repeats, Nears, Copies, Leaves}
use Rattle.timed_core.specs.Tale.{Tale, now}
use Rattle.timed_core.specs.Shape.{Shape}
use Rattle.timed_core.specs.Promises.{Ready, ComesOn, is_boot}
use Rattle.timed_core.proofs.MoveLaws.{Move, boots, boots_puts, readies, locks, owes_takes, chooses, clears, begins, turns, opens_short, repeats, turns_again, nears, opens, copies, copies_puts, commits, leaves, returns_home, returns}
use Rattle.timed_core.proofs.ShapeLaws.{moves, shape_at}
use Rattle.timed_core.proofs.ComesLaws.{comes}

abbrev boot_left : Phase → ℕ
boot_left (Boots j) = j
boot_left _ = 0

module _ (p : Timing) where
  -- The steps of the window and the return of a run that works with interrupts off throughout.
  abbrev tail : ℕ
  tail = if p.short then p.copying + p.exiting + 2 else 0

  -- How many steps there are at most before interrupts are on.
  abbrev off_left : Phase → ℕ
  off_left (Boots j) = j + 1
  off_left (Chooses j g) = j + p.start + 2 + tail
  off_left (Begins j) = j + 1 + tail
  off_left (Repeats j) = j + 1
  off_left (Nears j) = j + p.copying + p.exiting + 3
  off_left (Copies j) = j + p.exiting + 2
  off_left (Leaves e j) = j + 1
  off_left (Owes true g) = 0
  off_left (Owes false g) = p.choose + p.start + 3 + tail
  off_left _ = 0

  locked_past : (b : Bool) → is_boot (locked p b) ≡ false
  locked_past true = refl
  locked_past false = refl

  tail_is : p.short ≡ true → tail ≡ p.copying + p.exiting + 2
  tail_is h = ap (λ b. if b then p.copying + p.exiting + 2 else 0) h

  module _ (flags : ℕ → Bool) where
    boot_step : {ph ph' : Phase} {l : Label} {st st' : List Run} → Move p flags ph l st ph' st' → is_boot ph ≡ true
        → (ph' ≡ Rests) ⊎ ((is_boot ph' ≡ true) × (boot_left ph' < boot_left ph))
    boot_step (boots h) b = inr (refl, h)
    boot_step (boots_puts h) b = inr (refl, h)
    boot_step readies b = inl refl
    boot_step _ b = absurd cc

    pub past_boot : {ph ph' : Phase} {l : Label} {st st' : List Run} → Move p flags ph l st ph' st' → is_boot ph ≡ false → is_boot ph' ≡ false
    past_boot (boots h) b = absurd cc
    past_boot (boots_puts h) b = absurd cc
    past_boot (locks {r = r} none) b = locked_past r.void
    past_boot _ b = refl

    off_step : {ph ph' : Phase} {l : Label} {st st' : List Run} → Move p flags ph l st ph' st' → (is_on ph ≡ true) ⊎ (off_left ph' < off_left ph)
    off_step (boots h) = inr (omega arith)
    off_step (boots_puts h) = inr (omega arith)
    off_step readies = inr (omega arith)
    off_step (owes_takes {on = true}) = inl refl
    off_step (owes_takes {on = false}) = inr (omega arith)
    off_step (chooses h) = inr (omega arith)
    off_step (clears its_flag best level) = inr (omega arith)
    off_step (begins h) = inr (omega arith)
    off_step turns = inr (omega arith)
    off_step (opens_short is_short h) = inr (omega (arith, tail_is is_short))
    off_step (repeats h) = inr (omega arith)
    off_step turns_again = inr (omega arith)
    off_step (nears h) = inr (omega arith)
    off_step opens = inr (omega arith)
    off_step (copies h) = inr (omega arith)
    off_step (copies_puts h) = inr (omega arith)
    off_step commits = inr (omega arith)
    off_step (leaves h) = inr (omega arith)
    off_step returns_home = inr (omega arith)
    off_step returns = inr (omega arith)
    off_step _ = inl refl

  -- Past the boot they are at most `off`.
  short_bound : (off : ℕ) → Within p off → p.choose + p.start + 3 + tail ≤ off
  short_bound off w = by p.short refl w.short
    where
      by : (b : Bool) → p.short ≡ b → (b ≡ true → p.choose + p.start + p.copying + p.exiting + p.retry + 6 ≤ off) → p.choose + p.start + 3 + tail ≤ off
      by true e h = omega (arith, tail_is e, h refl)
      by false e h = let none : tail ≡ 0 = ap (λ b. if b then p.copying + p.exiting + 2 else 0) e in let long = w.taking in omega arith

  off_bounded : (off : ℕ) → Within p off → (ph : Phase) (st : List Run) → Shape p ph st → is_boot ph ≡ false → off_left ph ≤ off
  off_bounded off w (Boots j) st s past = absurd cc
  off_bounded off w Rests st s past = omega arith
  off_bounded off w Works st s past = omega arith
  off_bounded off w (Owes true g) st s past = omega arith
  off_bounded off w (Owes false g) st s past = short_bound off w
  off_bounded off w (Chooses j g) st s past = let low = s.2 in omega (arith, short_bound off w)
  off_bounded off w (Begins j) st s past = let low = s.2 in omega (arith, short_bound off w)
  off_bounded off w (Repeats j) st s past = let low = s.2 in let bound = w.again in omega arith
  off_bounded off w (Nears j) st s past = let low = s.2 in let bound = w.commit in omega arith
  off_bounded off w (Copies j) st s past = let low = s.2 in let bound = w.commit in omega arith
  off_bounded off w (Leaves e j) st s past = let low = s.3 in let bound = w.commit in omega arith

module _ (p : Timing) (tale : Tale p) where
  pub past_for_good : (n : ℕ) → is_boot (tale.phase n) ≡ false → (d k : ℕ) → k ≡ d + n → is_boot (tale.phase k) ≡ false
  past_for_good n past zero k e = let same : n ≡ k = omega arith in subst (λ j. is_boot (tale.phase j) ≡ false) same past
  past_for_good n past (suc d) k e =
      let same : suc (d + n) ≡ k = omega arith in
      subst (λ j. is_boot (tale.phase j) ≡ false) same (past_boot p (now tale (d + n)) (moves p tale (d + n)) (past_for_good n past d (d + n) refl))

  pub ready : Ready p tale
  ready =
      let it = comes (λ k. boot_left (tale.phase k)) (λ k. is_boot (tale.phase k) ≡ true) (λ k. tale.phase (suc k) ≡ Rests)
      (λ k b. boot_step p (now tale k) (moves p tale k) b) 0 (rw tale.starts refl) in
      let full : boot_left (tale.phase 0) ≡ p.boot = ap boot_left tale.starts in
      record {
        boundary = suc it.0;
        in_time = let h = it.2 in omega arith;
        rests = it.3;
        boots = λ k h. it.4 k (omega arith) (omega arith);
        past = λ k h. past_for_good (suc it.0) (ap is_boot it.3) (k - suc it.0) k (omega arith);
      }

  pub comes_on : (off : ℕ) → Within p off → ComesOn p tale off
  comes_on off w n past =
      let it = comes (λ k. off_left p (tale.phase k)) (λ k. Unit {0}) (λ k. is_on (tale.phase k) ≡ true) falls n tt in
      let bound = off_bounded p off w (tale.phase n) (tale.stack n) (shape_at p tale n) past in
      (it.0, it.1, let h = it.2 in omega arith, it.3)
    where
      by : (k : ℕ) → (is_on (tale.phase k) ≡ true) ⊎ (off_left p (tale.phase (suc k)) < off_left p (tale.phase k))
          → (is_on (tale.phase k) ≡ true) ⊎ (Unit {0} × (off_left p (tale.phase (suc k)) < off_left p (tale.phase k)))
      by k (inl h) = inl h
      by k (inr h) = inr (tt, h)

      falls : (k : ℕ) → Unit {0} → (is_on (tale.phase k) ≡ true) ⊎ (Unit {0} × (off_left p (tale.phase (suc k)) < off_left p (tale.phase k)))
      falls k u = by k (off_step p (now tale k) (moves p tale k))
