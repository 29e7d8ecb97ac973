-- The account: what an event waits for, from its latch on, is its response and what other events cost.
use Rattle.std.specs.Prelude.{ℕ, zero, suc, ◌+◌, ◌-◌, ◌*◌, ◌<◌, ◌≤◌, ◌==◌, Bool, true, false, ◌&&◌, ◌||◌, not, List, [], ◌∷◌, ◌⊎◌, if◌then◌else◌, nat_lt, count_by}
use Rattle.std.proofs.Common.{◌≡◌, refl, sym, ap, subst, arith, inl, inr}
use Rattle.std.proofs.lemmas.Nat.{mul-le}
use Rattle.std.proofs.lemmas.List.Sums.{sum_by-cons}
use Rattle.std.proofs.lemmas.Bool.Decides.{nat_tests}
use Rattle.timed_core.specs.Timing.{Timing, IsListed, Within}
use Rattle.timed_core.specs.Steps.{Run, Phase, top_level}
use Rattle.timed_core.specs.Steps.Phase.{Boots, Rests, Works, Owes, Chooses, Begins, Repeats, Nears, Copies, Leaves}
use Rattle.timed_core.specs.Tale.{Tale, now, is_clearing}
use Rattle.timed_core.specs.Shape.{StillSet}
use Rattle.timed_core.specs.Counts.{one, latches, latched, committed, is_commit, runs_of}
use Rattle.timed_core.specs.Promises.{Accounts}
use Rattle.timed_core.specs.Response.{cost, is_other, others, Awaits, Accounted, AccountedFromBoot}
use Rattle.timed_core.proofs.ShapeLaws.{moves, shape_at, still_at, keeps_shape}
use Rattle.timed_core.proofs.NestingLaws.{tower_at}
use Rattle.timed_core.proofs.OnceLaws.{each_once, none_above}
use Rattle.timed_core.proofs.OvertakingLaws.{count_grows}
use Rattle.timed_core.proofs.SumLaws.{total, total_le, total_add, total_is_sum, weigh, eq_of, less_or_not, gone}
use Rattle.timed_core.proofs.PotentialFacts.{taking}
use Rattle.timed_core.proofs.DebtFacts.{weigh_num, heavy, latch_cost, waits, debt, Waiting, debt_falls, no_restarts}
use Rattle.timed_core.proofs.ShareFacts.{share, shares, shared, shared_in_boot, debt_floor, debt_and_flag}

module _ (p : Timing) (off e : ℕ) where
  -- More flags only add what they wait for.
  debt_shift : (f g : ℕ → Bool) (ph : Phase) (st : List Run) → debt p off e f ph st + waits p off e g ≡ debt p off e g ph st + waits p off e f
  debt_shift f g (Boots j) st = omega arith
  debt_shift f g Rests st = omega arith
  debt_shift f g Works st = omega arith
  debt_shift f g (Owes on h) st = omega arith
  debt_shift f g (Chooses j h) st = omega arith
  debt_shift f g (Begins j) st = omega arith
  debt_shift f g (Repeats j) st = omega arith
  debt_shift f g (Nears j) st = omega arith
  debt_shift f g (Copies j) st = omega arith
  debt_shift f g (Leaves x j) st = omega arith

  latch_added : (f a h : Bool) (m k : ℕ) → weigh ((f || a) && h) k + weigh h (m * k) ≤ weigh (f && h) k + weigh h ((m + one (a && not f)) * k)
  latch_added true true true m k = omega arith
  latch_added true false true m k = omega arith
  latch_added false true true m k = omega arith
  latch_added false false true m k = omega arith
  latch_added true a false m k = omega arith
  latch_added false true false m k = omega arith
  latch_added false false false m k = omega arith

  kept : (g b c : Bool) → g ≡ (b && not c) → g ≡ true → b ≡ true
  kept g true c e set = refl
  kept g false c e set = absurd cc

  module _ (tale : Tale p) (listed : IsListed p) (w : Within p off) (real : 0 < p.level e) where
    abbrev at_step : ℕ → ℕ
    at_step n = debt p off e (tale.flags n) (tale.phase n) (tale.stack n)

    -- What has been latched so far, by its cost.
    abbrev latched_cost : ℕ → ℕ
    latched_cost n = total (λ x. weigh (heavy p off e x) (latched tale x n * latch_cost p off e x)) p.events

    arrivals_cost : (n : ℕ) → waits p off e (now tale n) + latched_cost n ≤ waits p off e (tale.flags n) + latched_cost (suc n)
    arrivals_cost n =
        omega (
          arith,
          total_add (λ x. weigh (now tale n x && heavy p off e x) (latch_cost p off e x)) (λ x. weigh (heavy p off e x) (latched tale x n * latch_cost p off e x)) p.events,
          total_add (λ x. weigh (tale.flags n x && heavy p off e x) (latch_cost p off e x)) (λ x. weigh (heavy p off e x) (latched tale x (suc n) * latch_cost p off e x)) p.events,
          total_le (λ x. weigh (now tale n x && heavy p off e x) (latch_cost p off e x) + weigh (heavy p off e x) (latched tale x n * latch_cost p off e x))
              (λ x. weigh (tale.flags n x && heavy p off e x) (latch_cost p off e x) + weigh (heavy p off e x) (latched tale x (suc n) * latch_cost p off e x)) p.events
              (λ x. latch_added (tale.flags n x) (tale.arrives n x) (heavy p off e x) (latched tale x n) (latch_cost p off e x)),
        )

    -- While the event waits, each step lowers the debt, but for what is latched.
    step_falls : (n : ℕ) → Waiting p off e (now tale n) (tale.stack n) → at_step (suc n) + 1 + latched_cost n ≤ at_step n + latched_cost (suc n)
    step_falls n wait =
        omega (
          arith,
          debt_falls p off e listed w real (now tale n) (tale.flags (suc n)) (λ x set. kept (tale.flags (suc n) x) (now tale n x) (is_clearing x (tale.label n)) (tale.keeps n x) set)
              (moves p tale n) (shape_at p tale n) (still_at p tale n) wait (λ x cleared. gone (tale.flags (suc n) x) (now tale n x) (is_clearing x (tale.label n)) (tale.keeps n x) cleared),
          debt_shift (now tale n) (tale.flags n) (tale.phase n) (tale.stack n),
          arrivals_cost n,
        )

    telescoped : (d b n : ℕ) → d + b ≡ n → ((k : ℕ) → b ≤ k → k < n → Waiting p off e (now tale k) (tale.stack k)) → at_step n + d + latched_cost b ≤ at_step b + latched_cost n
    telescoped zero b n h wait = let same : b ≡ n = omega arith in omega (arith, ap at_step same, ap latched_cost same)
    telescoped (suc d) b n h wait =
        let same : suc (d + b) ≡ n = omega arith in
        omega (arith, ap at_step same, ap latched_cost same, telescoped d b (d + b) refl (λ k from below. wait k from (omega arith)), step_falls (d + b) (wait (d + b) (omega arith) (omega arith)))

    module _ (b n : ℕ) (a : Awaits p tale e b n) where
      grows : (x j k : ℕ) → j ≤ k → latched tale x j ≤ latched tale x k
      grows x j k h = count_grows (latches tale x) (k - j) j k (omega arith)

      commits_grow : (x j k : ℕ) → j ≤ k → committed tale x j ≤ committed tale x k
      commits_grow x j k h = count_grows (λ i. is_commit x (tale.label i)) (k - j) j k (omega arith)

      waits_on : (k : ℕ) → b ≤ k → k < n → Waiting p off e (now tale k) (tale.stack k)
      waits_on k from below = by (now tale k e) refl (less_or_not (top_level p (tale.stack k)) (p.level e))
        where
          one_latch : one (latches tale e b) ≡ 1
          one_latch = ap one a.latch

          unlatched : (f c : Bool) → (f || c) ≡ false → (one f ≡ 0) × (one (c && not f) ≡ 0)
          unlatched true c h = absurd cc
          unlatched false true h = absurd cc
          unlatched false false h = (refl, refl)

          by : (v : Bool) → now tale k e ≡ v → (top_level p (tale.stack k) < p.level e) ⊎ (p.level e ≤ top_level p (tale.stack k)) → Waiting p off e (now tale k) (tale.stack k)
          by true set _ = inl set
          by false clear (inr top) = inr top
          by false clear (inl low) =
              let none = unlatched (tale.flags k e) (tale.arrives k e) clear in
              let no_flag = none.0 in
              let no_latch = none.1 in
              let account = each_once p tale k e in
              let first = a.first in
              let last = a.uncommitted in
              absurd (omega (arith, one_latch, account.latches, none_above p e (tale.stack k) (tower_at p tale k) low, grows e (suc b) (suc k) (omega arith), commits_grow e k n (omega arith)))

      -- Each other event's latches since, and its flag or run before, are what the account says.
      abbrev since : ℕ → ℕ
      since x = latched tale x n - committed tale x b

      abbrev at_first : ℕ → ℕ
      at_first x = one (tale.flags b x) + runs_of x (tale.stack b)

      own_none : at_first e ≡ 0
      own_none = let account = each_once p tale b e in let first = a.first in omega (arith, account.latches)

      abbrev own : ℕ → ℕ
      own x = weigh (x == e) ((latched tale e n - latched tale e b) * latch_cost p off e e)

      cost_le_share : (x : ℕ) → latch_cost p off e x ≤ share p off e x
      cost_le_share x = omega arith

      each_share : (x : ℕ) → weigh (heavy p off e x) (latched tale x n * latch_cost p off e x) + weigh (heavy p off e x) (at_first x * share p off e x)
          ≤ weigh (heavy p off e x) (latched tale x b * latch_cost p off e x) + (weigh (is_other p e x) (since x * share p off e x) + own x)
      each_share x = by (heavy p off e x) (x == e) refl
        where
          counted : (c f m d F K : ℕ) → F ≤ K → ((c + f + m + d) * F) + ((f + m) * K) ≤ ((c + f + m) * F) + ((f + m + d) * K)
          counted c f m d F K le = omega (arith, mul-le d F d K (omega arith) le)

          more : (l d F : ℕ) → (l + d) * F ≤ l * F + d * F
          more l d F = omega arith

          by : (h s : Bool) → (x == e) ≡ s → weigh h (latched tale x n * latch_cost p off e x) + weigh h (at_first x * share p off e x)
              ≤ weigh h (latched tale x b * latch_cost p off e x) + (weigh (not s && h) (since x * share p off e x) + weigh s ((latched tale e n - latched tale e b) * latch_cost p off e e))
          by false true it = omega arith
          by false false it = omega arith
          by true true it =
              let same = eq_of x e it in
              let later = a.later in
              let d = latched tale e n - latched tale e b in
              let split : latched tale e n ≡ latched tale e b + d = omega (arith, grows e b n (omega arith)) in
              subst (λ y. latched tale y n * latch_cost p off e y + at_first y * share p off e y ≤ latched tale y b * latch_cost p off e y + (0 + (latched tale e n - latched tale e b) * latch_cost p off e e)) (sym same)
              (omega (arith, more (latched tale e b) d (latch_cost p off e e), ap (λ m. m * latch_cost p off e e) split, ap (λ m. m * share p off e e) own_none))
          by true false it =
              let account = each_once p tale b x in
              let later = a.later in
              let d = latched tale x n - latched tale x b in
              let before : latched tale x b ≡ committed tale x b + one (tale.flags b x) + runs_of x (tale.stack b) = account.latches in
              let after : latched tale x n ≡ committed tale x b + one (tale.flags b x) + runs_of x (tale.stack b) + d = omega (arith, before, grows x b n (omega arith)) in
              let whole : since x ≡ one (tale.flags b x) + runs_of x (tale.stack b) + d = omega arith in
              omega (
                arith,
                counted (committed tale x b) (one (tale.flags b x)) (runs_of x (tale.stack b)) d (latch_cost p off e x) (share p off e x) (cost_le_share x),
                ap (λ m. m * latch_cost p off e x) before,
                ap (λ m. m * latch_cost p off e x) after,
                ap (λ m. m * share p off e x) whole,
              )

      all_shares : latched_cost n + shares p off e at_first ≤ latched_cost b + (total (λ x. weigh (is_other p e x) (since x * share p off e x)) p.events + total own p.events)
      all_shares =
          omega (
            arith,
            total_add (λ x. weigh (heavy p off e x) (latched tale x n * latch_cost p off e x)) (λ x. weigh (heavy p off e x) (at_first x * share p off e x)) p.events,
            total_add (λ x. weigh (heavy p off e x) (latched tale x b * latch_cost p off e x)) (λ x. weigh (is_other p e x) (since x * share p off e x) + own x) p.events,
            total_add (λ x. weigh (is_other p e x) (since x * share p off e x)) own p.events,
            total_le (λ x. weigh (heavy p off e x) (latched tale x n * latch_cost p off e x) + weigh (heavy p off e x) (at_first x * share p off e x))
                (λ x. weigh (heavy p off e x) (latched tale x b * latch_cost p off e x) + (weigh (is_other p e x) (since x * share p off e x) + own x)) p.events each_share,
          )

      total_one : (c : ℕ) (xs : List ℕ) → total (λ x. weigh (x == e) c) xs ≡ count_by (λ y. y == e) xs * c
      total_one c [] = omega arith
      total_one c (x ∷ xs) = by (x == e) (sum_by-cons (λ y. if y == e then 1 else 0) x xs) (total_one c xs)
        where
          by : (v : Bool) → count_by (λ y. y == e) (x ∷ xs) ≡ (if v then 1 else 0) + count_by (λ y. y == e) xs → total (λ y. weigh (y == e) c) xs ≡ count_by (λ y. y == e) xs * c
              → weigh v c + total (λ y. weigh (y == e) c) xs ≡ count_by (λ y. y == e) (x ∷ xs) * c
          by true h rest = omega (arith, ap (λ m. m * c) h)
          by false h rest = omega (arith, ap (λ m. m * c) h)

      own_total : total own p.events ≡ (latched tale e n - latched tale e b) * latch_cost p off e e
      own_total =
          let once : count_by (λ y. y == e) p.events ≡ 1 = once_of (count_by (λ y. y == e) p.events) (p.level e) (listed e) real in
          let whole = total_one ((latched tale e n - latched tale e b) * latch_cost p off e e) p.events in
          omega (arith, ap (λ m. m * ((latched tale e n - latched tale e b) * latch_cost p off e e)) once)
        where
          once_of : (c l : ℕ) → c ≡ (if nat_lt 0 l then 1 else 0) → 0 < l → c ≡ 1
          once_of c l h g = grind (arith, nat_tests)

      -- The event's own second latch, where it has one, still waits.
      own_bound : taking p + (latched tale e n - latched tale e b) * latch_cost p off e e ≤ at_step n + latch_cost p off e e
      own_bound = by (tale.flags n e) refl (less_or_not (top_level p (tale.stack n)) (p.level e))
        where
          still : StillSet (tale.flags n) (tale.phase n)
          still = (keeps_shape p tale n).1

          account : Accounts p tale e n
          account = each_once p tale n e

          one_of : (d F : ℕ) → d ≤ 1 → d * F ≤ F
          one_of d F h = omega (arith, mul-le d F 1 F h (omega arith))

          two_of : (d F : ℕ) → d ≤ 2 → d * F ≤ F + F
          two_of d F h = omega (arith, mul-le d F 2 F h (omega arith))

          by : (v : Bool) → tale.flags n e ≡ v → (top_level p (tale.stack n) < p.level e) ⊎ (p.level e ≤ top_level p (tale.stack n))
              → taking p + (latched tale e n - latched tale e b) * latch_cost p off e e ≤ at_step n + latch_cost p off e e
          by true set (inr top) =
              let once = account.once in
              let first = a.first in
              let last = a.uncommitted in
              let flag : one (tale.flags n e) ≡ 1 = ap one set in
              let few : latched tale e n - latched tale e b ≤ 2 = omega (arith, account.latches) in
              omega (
                arith,
                two_of (latched tale e n - latched tale e b) (latch_cost p off e e) few,
                debt_and_flag p off e listed real (tale.flags n) (tale.phase n) (tale.stack n) (shape_at p tale n) still set top,
              )
          by true set (inl low) =
              let first = a.first in
              let last = a.uncommitted in
              let flag : one (tale.flags n e) ≡ 1 = ap one set in
              let few : latched tale e n - latched tale e b ≤ 1 = omega (arith, account.latches, none_above p e (tale.stack n) (tower_at p tale n) low) in
              omega (arith, one_of (latched tale e n - latched tale e b) (latch_cost p off e e) few, debt_floor p off e listed real (tale.flags n) (tale.phase n) (tale.stack n) still)
          by false clear _ =
              let once = account.once in
              let first = a.first in
              let last = a.uncommitted in
              let flag : one (tale.flags n e) ≡ 0 = ap one clear in
              let few : latched tale e n - latched tale e b ≤ 1 = omega (arith, account.latches) in
              omega (arith, one_of (latched tale e n - latched tale e b) (latch_cost p off e e) few, debt_floor p off e listed real (tale.flags n) (tale.phase n) (tale.stack n) still)

      others_bound : total (λ x. weigh (is_other p e x) (since x * share p off e x)) p.events ≤ others p tale off e b n
      others_bound =
          omega (
            arith,
            total_le (λ x. weigh (is_other p e x) (since x * share p off e x)) (λ x. weigh (is_other p e x) (since x * cost p off e x)) p.events
                (λ x. weigh_num (is_other p e x) _ _ (mul-le (since x) (share p off e x) (since x) (cost p off e x) (omega arith) (share_le_cost x))),
            total_is_sum (λ x. weigh (is_other p e x) (since x * cost p off e x)) p.events,
          )
        where
          share_le_cost : (x : ℕ) → share p off e x ≤ cost p off e x
          share_le_cost x = let sum = w.sum in let order = w.order in omega arith

      abbrev Shared : ℕ → Type 0
      Shared rest = at_step b ≤ taking p + rest + shares p off e at_first

      accounts : (rest : ℕ) → Shared rest → n ≤ b + (rest + 2 * off + (p.body e - p.spare)) + others p tale off e b n
      accounts rest start =
          let later = a.later in
          let pair = w.pair in
          omega (arith, telescoped (n - b) b n (omega arith) waits_on, all_shares, own_total, own_bound, others_bound, no_restarts p off e (p.level e) (omega arith))

module _ (p : Timing) (listed : IsListed p) (tale : Tale p) (off : ℕ) (w : Within p off) where
  real_at : (e b n : ℕ) → Awaits p tale e b n → 0 < p.level e
  real_at e b n a = tale.real b e (arrived (tale.arrives b e) (tale.flags b e) a.latch)
    where
      arrived : (c f : Bool) → (c && not f) ≡ true → c ≡ true
      arrived true f h = refl
      arrived false f h = absurd cc

  pub accounted : Accounted p tale off
  accounted e b n a past =
      let real = real_at e b n a in
      omega (arith, accounts p off e tale listed w real b n a off (shared p off e listed real w (tale.flags b) (tale.phase b) (tale.stack b) (shape_at p tale b) past))

  pub accounted_from_boot : AccountedFromBoot p tale off
  accounted_from_boot e b n a =
      let real = real_at e b n a in
      omega (arith, accounts p off e tale listed w real b n a (off + p.boot + 2) (shared_in_boot p off e listed real w (tale.flags b) (tale.phase b) (tale.stack b) (shape_at p tale b)))
