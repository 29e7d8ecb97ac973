-- What arrives in the run of a large program: each of the number's arrivals once, and nothing past the last.
use Rattle.std.proofs.Common.{◌≡◌, ℕ, zero, suc, ◌+◌, ◌^◌, ◌<◌, ◌≤◌, true, false, cond, ◌==◌, List, [], ◌∷◌, length, refl, sym, ap, subst, inl, inr, ◌∙◌, arith, zero-add}
use Rattle.std.specs.Prelude.{◌≢◌, ◌⊎◌}
use Rattle.std.specs.List.{AllByRecursion, sum_by}
use Rattle.std.proofs.lemmas.Bool.{agree_below_at, eqb-true, ne_eqb}
use Rattle.std.proofs.lemmas.Bool.Decides.{eqb_tells}
use Rattle.std.proofs.lemmas.List.{get_or_past}
use Rattle.std.proofs.lemmas.List.FromFn.{length-map-range_with_len}
use Rattle.pic_isa.specs.declared.sources.Source.{Source}
use Rattle.pic_isa.specs.Sources.{sources}
use Rattle.pic_regs.specs.Bytes.{one_if}
use Rattle.pic_regs.specs.Arrivals.{Sources, no_source, set_of}
use Rattle.pic_machine.specs.Boundary.{no_outer}
use Rattle.pic_machine.specs.Run.{outer_of}
use Rattle.arrival_script.specs.declared.scripts.Arrival.{Arrival}
use Rattle.arrival_script.specs.declared.scripts.Script.{Script}
use Rattle.arrival_script.specs.Sends.{RiseFrom}
use Rattle.arrival_script.specs.Trace.{outer_at, outers_of, set_at}
use Rattle.large_program.specs.declared.arriving.OneArrival.{OneArrival}
use Rattle.large_program.specs.Arrivals.{arrivals, boundary_of, last_boundary, nth_arrival}
use Rattle.large_program.specs.Laws.{ArrivalsRise}
use Rattle.large_run.specs.Tallies.{as_script}
use Rattle.large_run.proofs.CountFacts.{below-agree, below-none, below-of_sums, below_sum, hit-once}
use Rattle.large_run.proofs.RunFacts.{arrivals_from, none-later, outer-at}

-- Nothing arrives past the last boundary of a list.
pub arrives-within : (xs : List Arrival) (high k : ℕ) (source : Source) → AllByRecursion (λ a. a.at ≤ high) xs → set_at xs k source ≡ true → k ≤ high
arrives-within [] high k source all arrives = let it = arrives in cc
arrives-within (a ∷ xs) high k source all arrives = by (eqb_tells a.at k) (arrives-within xs high k source all.1)
  where
    by : (((a.at == k) ≡ true) × (a.at ≡ k)) ⊎ (((a.at == k) ≡ false) × (a.at ≢ k)) → (set_at xs k source ≡ true → k ≤ high) → k ≤ high
    by (inl t) rest = let same = t.1 in let low = all.0 in omega (arith, same, low)
    by (inr t) rest = rest (subst (λ b. cond b (set_of a.sources) (set_at xs k) source ≡ true) t.0 arrives)

pub none-past : (xs : List Arrival) (high k : ℕ) → AllByRecursion (λ a. a.at ≤ high) xs → high < k → set_at xs k ≡ no_source
none-past [] high k all above = refl
none-past (a ∷ xs) high k all above =
    ap (λ b. cond b (set_of a.sources) (set_at xs k)) (ne_eqb a.at k (λ e. let low = all.0 in absurd (omega (arith, e, low, above)))) ∙ none-past xs high k all.1 above

-- So what comes from outside at a boundary of any number is what the list says.
pub outer-arrives : (s : Script) (high k : ℕ) → AllByRecursion (λ a. a.at ≤ high) s.arrivals → high < s.steps → (outer_of (outers_of s) k).arrivals ≡ set_at s.arrivals k
outer-arrives s high k all below = by (k < s.steps) (s.steps ≤ k) (inside_or_past k s.steps) (λ inside. ap (λ o. o.arrivals) (outer-at s k inside)) past
  where
    inside_or_past : (a b : ℕ) → (a < b) ⊎ (b ≤ a)
    inside_or_past a zero = inr (omega arith)
    inside_or_past zero (suc b) = inl (omega arith)
    inside_or_past (suc a) (suc b) = next (inside_or_past a b)
      where
        next : (a < b) ⊎ (b ≤ a) → (suc a < suc b) ⊎ (suc b ≤ suc a)
        next (inl h) = inl (omega (arith, h))
        next (inr h) = inr (omega (arith, h))

    by : {R : Type 0} (A B : Type 0) → A ⊎ B → (A → R) → (B → R) → R
    by A B (inl a) f g = f a
    by A B (inr b) f g = g b

    past : s.steps ≤ k → (outer_of (outers_of s) k).arrivals ≡ set_at s.arrivals k
    past h =
        let many = length-map-range_with_len (outer_at s) 0 s.steps in
        ap (λ o. o.arrivals) (get_or_past (outers_of s) k no_outer (omega (arith, many, h))) ∙ sym (none-past s.arrivals high k all (omega (arith, below, h)))

-- How many of some arrivals come at a boundary.
hits : List OneArrival → ℕ → ℕ
hits [] k = 0
hits (a ∷ xs) k = one_if (a.at == k) + hits xs k

arriving : Sources → ℕ
arriving set = sum_by (λ source. one_if (set source)) sources

one-source : (n : ℕ) → n < 11 → (arriving (set_of (2 ^ n)) == 1) ≡ true
unfolding arriving
one-source n below = agree_below_at (λ k. arriving (set_of (2 ^ k)) == 1) (λ k. true) 11 n refl below

no-arriving : arriving no_source ≡ 0
unfolding arriving
no-arriving = refl

set-hits : (xs : List OneArrival) (low k : ℕ) → RiseFrom low (as_script xs) → AllByRecursion (λ a. a.source < 11) xs → arriving (set_at (as_script xs) k) ≡ hits xs k
unfolding hits
set-hits [] low k rise known = no-arriving
set-hits (a ∷ xs) low k rise known = by (eqb_tells a.at k) (set-hits xs (a.at + 1) k rise.2 known.1)
  where
    by : (((a.at == k) ≡ true) × (a.at ≡ k)) ⊎ (((a.at == k) ≡ false) × (a.at ≢ k)) → arriving (set_at (as_script xs) k) ≡ hits xs k → arriving (cond (a.at == k) (set_of (2 ^ a.source)) (set_at (as_script xs) k)) ≡ one_if (a.at == k) + hits xs k
    by (inl t) later =
        let here = t.1 in
        let none = sym later ∙ ap arriving (none-later (as_script xs) (a.at + 1) k rise.2 (omega (arith, here))) ∙ no-arriving in
        let one = eqb-true (arriving (set_of (2 ^ a.source))) 1 (one-source a.source known.0) in
        ap (λ b. arriving (cond b (set_of (2 ^ a.source)) (set_at (as_script xs) k))) t.0 ∙ one ∙ sym ((λ j. one_if (t.0 j) + none j))
    by (inr t) later = ap (λ b. arriving (cond b (set_of (2 ^ a.source)) (set_at (as_script xs) k))) t.0 ∙ later ∙ sym (zero-add (hits xs k)) ∙ sym (ap (λ b. one_if b + hits xs k) t.0)

hits-all : (xs : List OneArrival) (n : ℕ) → AllByRecursion (λ a. a.at < n) xs → below_sum (hits xs) n ≡ length xs
unfolding hits
hits-all [] n all = below-none n
hits-all (a ∷ xs) n all = below-of_sums (λ k. one_if (a.at == k)) (hits xs) n ∙ (λ j. hit-once a.at n all.0 j + hits-all xs n all.1 j) ∙ omega arith

-- The arrivals of a number: each at its boundary, none past the last.
module _ (n : ℕ) (law : (i : ℕ) → ArrivalsRise n i) where
  rising : (i d : ℕ) → boundary_of n i ≤ boundary_of n (i + d)
  rising i zero = let e : i ≡ i + 0 = omega arith in let same = ap (boundary_of n) e in omega (arith, same)
  rising i (suc d) =
      let before = rising i d in
      let less = (law (i + d)).later in
      let e : i + d + 1 ≡ i + suc d = omega arith in
      let same = ap (boundary_of n) e in
      omega (arith, before, less, same)

  to-last : (i count : ℕ) → i + suc count ≡ 200 → boundary_of n i ≤ last_boundary n
  to-last i count h = let e : i + count ≡ 199 = omega (arith, h) in subst (λ k. boundary_of n i ≤ boundary_of n k) e (rising i count)

  pub all-within : AllByRecursion (λ (a : Arrival). a.at ≤ last_boundary n) (as_script (arrivals n))
  all-within = go 0 200 refl
    where
      go : (i count : ℕ) → i + count ≡ 200 → AllByRecursion (λ (a : Arrival). a.at ≤ last_boundary n) (as_script (arrivals_from n i count))
      go i zero h = tt
      go i (suc count) h = (to-last i count h, go (i + 1) count (omega (arith, h)))

  all-before : (k : ℕ) → last_boundary n < k → AllByRecursion (λ (a : OneArrival). a.at < k) (arrivals n)
  all-before k past = go 0 200 refl
    where
      go : (i count : ℕ) → i + count ≡ 200 → AllByRecursion (λ (a : OneArrival). a.at < k) (arrivals_from n i count)
      go i zero h = tt
      go i (suc count) h = (let most = to-last i count h in omega (arith, most, past), go (i + 1) count (omega (arith, h)))

  -- In the first k steps, past the last boundary, all 200 have come.
  pub all-come : RiseFrom 0 (as_script (arrivals n)) → AllByRecursion (λ a. a.source < 11) (arrivals n) → (k : ℕ) → last_boundary n < k
      → below_sum (λ j. sum_by (λ source. one_if (set_at (as_script (arrivals n)) j source)) sources) k ≡ 200
  unfolding arriving
  all-come rise known k past =
      below-agree (λ j. arriving (set_at (as_script (arrivals n)) j)) (hits (arrivals n)) (λ j. set-hits (arrivals n) 0 j rise known) k
      ∙ hits-all (arrivals n) k (all-before k past) ∙ length-map-range_with_len (nth_arrival n) 0 200

-- The first boundary is 1000, and the last not before it.
pub first-boundary : (n : ℕ) → ((i : ℕ) → ArrivalsRise n i) → 1000 ≤ last_boundary n
unfolding boundary_of
first-boundary n law = rising n law 0 199
