-- Each latch is treated once: what is cleared goes on the stack, and what commits leaves it.
use Rattle.std.specs.Prelude.{ℕ, zero, suc, ◌+◌, ◌<◌, ◌≤◌, ◌==◌, Bool, true, false, not, ◌&&◌, ◌||◌, List, [], ◌∷◌}
use Rattle.std.proofs.Common.{◌≡◌, refl, ap, subst, arith}
use Rattle.std.proofs.lemmas.Bool.Decides.{nat_tests}
use Rattle.timed_core.specs.Timing.{Timing}
use Rattle.timed_core.specs.Steps.{Run, Phase, Label, voided, top_level}
use Rattle.timed_core.specs.Tale.{Tale, now, is_clearing}
use Rattle.timed_core.specs.Shape.{Tower}
use Rattle.timed_core.specs.Counts.{one, latched, cleared, committed, is_commit, runs_of}
use Rattle.timed_core.specs.Promises.{EachOnce}
use Rattle.timed_core.proofs.MoveLaws.{Move, clears, commits}
use Rattle.timed_core.proofs.ShapeLaws.{moves}
use Rattle.timed_core.proofs.NestingLaws.{tower_at}

pub runs_voided : (x : ℕ) (st : List Run) → runs_of x (voided st) ≡ runs_of x st
runs_voided x [] = refl
runs_voided x (r ∷ rs) = ap (λ n. one (x == r.event) + n) (runs_voided x rs)

other_level : (p : Timing) (x y : ℕ) → p.level y < p.level x → one (x == y) ≡ 0
other_level p x y h = by (x == y) refl
  where
    by : (b : Bool) → (x == y) ≡ b → one b ≡ 0
    by true e = let same : x ≡ y = grind (arith, nat_tests) in absurd (omega (arith, ap p.level same))
    by false e = refl

module _ (p : Timing) where
  -- No run on a stack is of a level above the top's, and none beneath is of the top's.
  pub none_above : (x : ℕ) (st : List Run) → Tower p st → top_level p st < p.level x → runs_of x st ≡ 0
  none_above x [] t h = refl
  none_above x (r ∷ rs) t h = let low = t.1 in omega (arith, other_level p x r.event h, none_above x rs t.2 (omega arith))

  pub one_at_most : (x : ℕ) (st : List Run) → Tower p st → runs_of x st ≤ 1
  one_at_most x [] t = omega arith
  one_at_most x (r ∷ rs) t = by (x == r.event) refl (one_at_most x rs t.2)
    where
      by : (b : Bool) → (x == r.event) ≡ b → runs_of x rs ≤ 1 → one b + runs_of x rs ≤ 1
      by true e rest = let same : x ≡ r.event = grind (arith, nat_tests) in omega (arith, none_above x rs t.2 (let low = t.1 in omega (arith, ap p.level same)))
      by false e rest = omega (arith, rest)

  module _ (flags : ℕ → Bool) where
    pub account_step : {ph ph' : Phase} {l : Label} {st st' : List Run} → Move p flags ph l st ph' st' → (x : ℕ)
        → one (is_clearing x l) + runs_of x st ≡ one (is_commit x l) + runs_of x st'
    account_step (clears its_flag best level) x = omega arith
    account_step (commits {r = r} {rs = rs}) x = omega (arith, runs_voided x rs)
    account_step _ x = refl

    -- Only a flag that is set is cleared.
    pub cleared_is_set : {ph ph' : Phase} {l : Label} {st st' : List Run} → Move p flags ph l st ph' st' → (x : ℕ) → is_clearing x l ≡ true → flags x ≡ true
    cleared_is_set (clears {h = h} its_flag best level) x e = let same : h ≡ x = grind (arith, nat_tests) in subst (λ y. flags y ≡ true) same its_flag
    cleared_is_set _ x e = absurd cc

flag_ledger : (f a c : Bool) → (c ≡ true → (f || a) ≡ true) → one f + one (a && not f) ≡ one ((f || a) && not c) + one c
flag_ledger true true true h = refl
flag_ledger true true false h = refl
flag_ledger true false true h = refl
flag_ledger true false false h = refl
flag_ledger false true true h = refl
flag_ledger false true false h = refl
flag_ledger false false true h = let e = h refl in absurd cc
flag_ledger false false false h = refl

module _ (p : Timing) (tale : Tale p) where
  pub cleared_or_waits : (n x : ℕ) → latched tale x n ≡ cleared tale x n + one (tale.flags n x)
  cleared_or_waits zero x = rw (tale.clear x) refl
  cleared_or_waits (suc n) x =
      let here = flag_ledger (tale.flags n x) (tale.arrives n x) (is_clearing x (tale.label n)) (cleared_is_set p (now tale n) (moves p tale n) x) in
      omega (arith, here, cleared_or_waits n x, ap one (tale.keeps n x))

  pub committed_or_under_way : (n x : ℕ) → cleared tale x n ≡ committed tale x n + runs_of x (tale.stack n)
  committed_or_under_way zero x = rw tale.empty refl
  committed_or_under_way (suc n) x = omega (arith, account_step p (now tale n) (moves p tale n) x, committed_or_under_way n x)

  pub each_once : EachOnce p tale
  each_once n x = record {
    latches = omega (arith, cleared_or_waits n x, committed_or_under_way n x);
    clearings = committed_or_under_way n x;
    once = one_at_most p x (tale.stack n) (tower_at p tale n);
  }
