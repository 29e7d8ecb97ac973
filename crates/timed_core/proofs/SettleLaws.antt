-- All have reacted in time: the settling potential falls from its bound to its least.
use Rattle.std.specs.Prelude.{ℕ, zero, suc, ◌+◌, ◌-◌, ◌*◌, ◌<◌, ◌≤◌, Bool, true, false, ◌&&◌, ◌||◌, not, List, ◌⊎◌, sum_by}
use Rattle.std.proofs.Common.{◌≡◌, refl, subst, arith, inl, inr}
use Rattle.timed_core.specs.Timing.{Timing, IsListed, Within}
use Rattle.timed_core.specs.Steps.{Run, Phase, Label, Above}
use Rattle.timed_core.specs.Steps.Phase.{Rests}
use Rattle.timed_core.specs.Tale.{Tale, now, is_clearing}
use Rattle.timed_core.specs.Settling.{settle_steps, Settles}
use Rattle.timed_core.proofs.MoveLaws.{Move, rests, rests_takes, rests_delays}
use Rattle.timed_core.proofs.ShapeLaws.{moves, shape_at, keeps_shape}
use Rattle.timed_core.proofs.SumLaws.{total_le, total_add, total_is_sum, gone}
use Rattle.timed_core.proofs.PotentialFacts.{taking, again, flag_cost, potential}
use Rattle.timed_core.proofs.FallFacts.{Done, falls, high}
use Rattle.timed_core.proofs.BoundFacts.{run_cost, all_runs, all_flags, bounded}

module _ (p : Timing) (listed : IsListed p) (tale : Tale p) where
  -- No event arrives at a boundary.
  abbrev Silent : ℕ → Type 0
  Silent n = (x : ℕ) → tale.arrives n x ≡ false

  abbrev level : ℕ → ℕ
  level n = potential p (tale.flags n) (tale.phase n) (tale.stack n)

  abbrev DoneAt : ℕ → Type 0
  DoneAt n = Done p listed (tale.flags n) (tale.phase n)

  or_none : (a b : Bool) → b ≡ false → (a || b) ≡ a
  or_none true b h = refl
  or_none false b h = h

  now_is : (n : ℕ) → Silent n → now tale n ≡ tale.flags n
  now_is n silent = λ i x. or_none (tale.flags n x) (tale.arrives n x) (silent x) i

  silent_move : (n : ℕ) → Silent n → Move p (tale.flags n) (tale.phase n) (tale.label n) (tale.stack n) (tale.phase (suc n)) (tale.stack (suc n))
  silent_move n silent = subst (λ f. Move p f (tale.phase n) (tale.label n) (tale.stack n) (tale.phase (suc n)) (tale.stack (suc n))) (now_is n silent) (moves p tale n)

  kept_set : (g f a c : Bool) → g ≡ ((f || a) && not c) → a ≡ false → g ≡ true → f ≡ true
  kept_set g true a c e none set = refl
  kept_set g false true c e none set = absurd cc
  kept_set g false false c e none set = absurd cc

  less : (n : ℕ) → Silent n → (x : ℕ) → tale.flags (suc n) x ≡ true → tale.flags n x ≡ true
  less n silent x set = kept_set (tale.flags (suc n) x) (tale.flags n x) (tale.arrives n x) (is_clearing x (tale.label n)) (tale.keeps n x) (silent x) set

  step_falls : (n : ℕ) → Silent n → (level (suc n) + 1 ≤ level n) ⊎ DoneAt n
  step_falls n silent =
      falls p listed (tale.flags n) (tale.flags (suc n)) (silent_move n silent) (shape_at p tale n) (less n silent)
      (λ x cleared. gone (tale.flags (suc n) x) (tale.flags n x || tale.arrives n x) (is_clearing x (tale.label n)) (tale.keeps n x) cleared)

  -- What is done stays so.
  rests_on : (f : ℕ → Bool) {ph ph' : Phase} {l : Label} {st st' : List Run} → Move p f ph l st ph' st' → ph ≡ Rests → (Above p f 0 → ⊥) → ph' ≡ Rests
  rests_on f (rests none) e quiet = refl
  rests_on f (rests_takes a) e quiet = absurd (quiet a)
  rests_on f (rests_delays a) e quiet = absurd (quiet a)
  rests_on f _ e quiet = absurd cc

  done_on : (n : ℕ) → Silent n → DoneAt n → DoneAt (suc n)
  done_on n silent done = (rests_on (tale.flags n) (silent_move n silent) done.0 done.1, λ a. done.1 (a.0, less n silent a.0 a.1, a.2))

  module _ (n from : ℕ) (quiet : (i : ℕ) → from ≤ i → i < n → Silent i) where
    lasts : (d j : ℕ) → from ≤ j → j + d ≡ n → DoneAt j → DoneAt n
    lasts zero j h e done = let same : j ≡ n = omega arith in subst DoneAt same done
    lasts (suc d) j h e done = lasts d (suc j) (omega arith) (omega arith) (done_on j (quiet j h (omega arith)) done)

    reaches : (d j : ℕ) → from ≤ j → j + d ≡ n → level j ≤ taking p + d → DoneAt n
    reaches zero j h e low = by (high p listed (tale.flags j) (tale.phase j) (tale.stack j) (shape_at p tale j) (keeps_shape p tale j).1)
      where
        by : (taking p < level j) ⊎ DoneAt j → DoneAt n
        by (inl up) = absurd (omega arith)
        by (inr done) = let same : j ≡ n = omega arith in subst DoneAt same done
    reaches (suc d) j h e low = by (step_falls j (quiet j h (omega arith))) (λ bound. reaches d (suc j) (omega arith) (omega arith) bound)
      where
        by : (level (suc j) + 1 ≤ level j) ⊎ DoneAt j → (level (suc j) ≤ taking p + d → DoneAt n) → DoneAt n
        by (inl falls) rest = rest (omega arith)
        by (inr done) rest = lasts (suc d) j h e done

  share_bound : (off : ℕ) → Within p off → (x : ℕ) → run_cost p listed x + flag_cost p x ≤ 3 * (p.body x - p.spare) + 4 * off
  share_bound off w x = let sum = w.sum in omega arith

  all_bound : (off : ℕ) → Within p off → all_runs p listed + all_flags p listed ≤ sum_by (λ e. 3 * (p.body e - p.spare) + 4 * off) p.events
  all_bound off w =
      omega (
        arith,
        total_add (run_cost p listed) (flag_cost p) p.events,
        total_le (λ x. run_cost p listed x + flag_cost p x) (λ e. 3 * (p.body e - p.spare) + 4 * off) p.events (share_bound off w),
        total_is_sum (λ e. 3 * (p.body e - p.spare) + 4 * off) p.events,
      )

  no_arrival : (b : Bool) → (b ≡ true → ⊥) → b ≡ false
  no_arrival true h = absurd (h refl)
  no_arrival false h = refl

  pub settles : (off : ℕ) → Within p off → Settles p tale off
  settles off w n quiet = record { rests = done.0; clear = λ x real. no_arrival (tale.flags n x) (λ set. done.1 (x, set, real)) }
    where
      from : ℕ
      from = suc (n - settle_steps p off)

      silent : (i : ℕ) → from ≤ i → i < n → Silent i
      silent i h below = λ x. no_arrival (tale.arrives i x) (λ there. let late = quiet.1 i x below there in absurd (omega arith))

      done : DoneAt n
      done =
          let long = quiet.0 in
          let order : again p ≤ taking p = w.order in
          let start = bounded p listed (tale.flags from) order (tale.phase from) (tale.stack from) (shape_at p tale from) in
          reaches n from silent (n - from) from (omega arith) (omega arith) (omega (arith, all_bound off w))
