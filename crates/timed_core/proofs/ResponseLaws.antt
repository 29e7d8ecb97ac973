-- The response: an event that is alone commits in time.
use Rattle.std.specs.Prelude.{ℕ, zero, suc, ◌+◌, ◌-◌, ◌*◌, ◌<◌, ◌≤◌, ◌≢◌, ◌==◌, Bool, true, false, not, List, [], ◌∷◌, ◌⊎◌, nat_le}
use Rattle.std.proofs.Common.{◌≡◌, refl, sym, ap, arith, inl, inr}
use Rattle.timed_core.specs.Timing.{Timing, IsListed, Within}
use Rattle.timed_core.specs.Tale.{Tale}
use Rattle.timed_core.specs.Counts.{one, count, latches, latched, committed, is_commit}
use Rattle.timed_core.specs.Response.{response, cost, is_other, Awaits, IsAlone, Responds}
use Rattle.timed_core.proofs.OnceLaws.{each_once}
use Rattle.timed_core.proofs.OvertakingLaws.{count_grows}
use Rattle.timed_core.proofs.SumLaws.{total, total_is_sum, weigh, both_parts, le_of, eq_test}
use Rattle.timed_core.proofs.AccountLaws.{accounted}

-- A count stays where no boundary passes its test.
count_stays : (test : ℕ → Bool) (d b n : ℕ) → d + b ≡ n → ((k : ℕ) → b ≤ k → k < n → test k ≡ false) → count test n ≡ count test b
count_stays test zero b n h none = let same : b ≡ n = omega arith in sym (ap (count test) same)
count_stays test (suc d) b n h none =
    let same : suc (d + b) ≡ n = omega arith in
    omega (arith, ap (count test) same, ap one (none (d + b) (omega arith) (omega arith)), count_stays test d b (d + b) refl (λ k from below. none k from (omega arith)))

total_zero : (f : ℕ → ℕ) (xs : List ℕ) → ((x : ℕ) → f x ≡ 0) → total f xs ≡ 0
total_zero f [] h = refl
total_zero f (x ∷ xs) h = omega (arith, h x, total_zero f xs h)

module _ (p : Timing) (listed : IsListed p) (tale : Tale p) (off : ℕ) (w : Within p off) (e b : ℕ) (alone : IsAlone p tale e b) where
  abbrev end : ℕ
  end = b + response p off e + 1

  grows : (j k : ℕ) → j ≤ k → committed tale e j ≤ committed tale e k
  grows j k h = count_grows (λ i. is_commit e (tale.label i)) (k - j) j k (omega arith)

  -- Where it were uncommitted at the end, the others would cost nothing.
  module _ (uncommitted : committed tale e end ≡ committed tale e b) where
    stays : (k : ℕ) → b ≤ k → k < end → committed tale e k ≡ committed tale e b
    stays k from below = omega (arith, grows b k from, grows k end (omega arith))

    costless : (h : ℕ) → weigh (is_other p e h) ((latched tale h end - committed tale h b) * cost p off e h) ≡ 0
    costless h = by (is_other p e h) refl
      where
        differs : not (h == e) ≡ true → h ≢ e
        differs n same = let it : (h == e) ≡ true = eq_test h e same in let bad = ap not it in absurd (clash (not (h == e)) n bad)
          where
            clash : (v : Bool) → v ≡ true → v ≡ false → ⊥
            clash true x y = absurd cc
            clash false x y = absurd cc

        by : (v : Bool) → is_other p e h ≡ v → weigh v ((latched tale h end - committed tale h b) * cost p off e h) ≡ 0
        by false it = refl
        by true it =
            let parts = both_parts (not (h == e)) (nat_le (p.level e) (p.level h)) it in
            let level = le_of (p.level e) (p.level h) parts.1 in
            let about = alone.none_about h level in
            let account = each_once p tale b h in
            let flag = ap one about.0 in
            let runs = about.1 in
            let same = count_stays (latches tale h) (end - b) b end (omega arith) (λ k from below. alone.none_since h k (differs parts.0) level from (stays k from below)) in
            let none : latched tale h end - committed tale h b ≡ 0 = omega (arith, same, account.latches, flag) in
            omega (arith, ap (λ m. m * cost p off e h) none)

    awaits : Awaits p tale e b end
    awaits =
        let about = alone.none_about e (omega arith) in
        let account = each_once p tale b e in
        let flag = ap one about.0 in
        let runs = about.1 in
        record { latch = alone.latch; first = omega (arith, account.latches); later = omega arith; uncommitted = uncommitted }

    too_late : ⊥
    too_late =
        let none = total_zero (λ h. weigh (is_other p e h) ((latched tale h end - committed tale h b) * cost p off e h)) p.events costless in
        let bound = accounted p listed tale off w e b end awaits alone.past in
        omega (arith, total_is_sum (λ h. weigh (is_other p e h) ((latched tale h end - committed tale h b) * cost p off e h)) p.events)

  in_time : committed tale e b < committed tale e end
  in_time = by (less_or_same (committed tale e b) (committed tale e end) (grows b end (omega arith)))
    where
      less_or_same : (m n : ℕ) → m ≤ n → (m < n) ⊎ (n ≡ m)
      less_or_same m n h = grind arith

      by : (committed tale e b < committed tale e end) ⊎ (committed tale e end ≡ committed tale e b) → committed tale e b < committed tale e end
      by (inl h) = h
      by (inr same) = absurd (too_late same)

pub responds : (p : Timing) → IsListed p → (tale : Tale p) (off : ℕ) → Within p off → Responds p tale off
responds p listed tale off w e b alone = in_time p listed tale off w e b alone
