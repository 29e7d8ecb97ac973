-- Tests of the numbers of a range, and of sources.
use Rattle.std.proofs.Common.{◌≡◌, ℕ, zero, suc, ◌+◌, ◌<◌, ◌≤◌, ◌&&◌, ◌||◌, Bool, true, false, not, List, [], ◌∷◌, refl, sym, ap, ◌∙◌, arith, inl, inr}
use Rattle.std.specs.List.{list_all, list_any, range_with_len}
use Rattle.std.proofs.lemmas.Bool.Decides.{eqb_tells}
use Rattle.pic_isa.specs.declared.sources.Source.{Source}
use Rattle.pic_isa.specs.Sources.{sources}
use Rattle.pic_isa.proofs.SourceLaws.{each_source}

-- A test holds of some number of a range exactly where it holds of one that lies in it.
pub found_in_range : (test : ℕ → Bool) (a n : ℕ) → list_any test (range_with_len a n) ≡ true → (k : ℕ) × (a ≤ k) × (k < a + n) × (test k ≡ true)
found_in_range test a zero some = absurd (cc)
found_in_range test a (suc n) some = by (test a) refl (found_in_range test (a + 1) n) some
  where
    by : (b : Bool) → test a ≡ b → (list_any test (range_with_len (a + 1) n) ≡ true → (k : ℕ) × (a + 1 ≤ k) × (k < a + 1 + n) × (test k ≡ true))
        → (b || list_any test (range_with_len (a + 1) n)) ≡ true → (k : ℕ) × (a ≤ k) × (k < a + suc n) × (test k ≡ true)
    by true is later or = (a, omega arith, omega arith, is)
    by false is later or = let its = later or in let low = its.1 in let high = its.2 in (its.0, omega (arith, low), omega (arith, high), its.3)

pub some_in_range : (test : ℕ → Bool) (a n k : ℕ) → a ≤ k → k < a + n → test k ≡ true → list_any test (range_with_len a n) ≡ true
some_in_range test a zero k low high holds = absurd (omega (arith, low, high))
some_in_range test a (suc n) k low high holds =
    elim (eqb_tells k a) [
      | inl same ↦ ap (λ b. b || list_any test (range_with_len (a + 1) n)) (sym (ap test same.1) ∙ holds)
      | inr differ ↦ let other = differ.1 in later (test a) (some_in_range test (a + 1) n k (omega (arith, low, other)) (omega (arith, high)) holds)
    ]
  where
    later : (b : Bool) → list_any test (range_with_len (a + 1) n) ≡ true → (b || list_any test (range_with_len (a + 1) n)) ≡ true
    later true rest = refl
    later false rest = rest

-- A test holds of some element of a list.
pub found_in : {A : Type 0} (test : A → Bool) (xs : List A) → list_any test xs ≡ true → (x : A) × (test x ≡ true)
found_in test [] some = absurd (cc)
found_in {A} test (x ∷ xs) some = by (test x) refl (found_in test xs) some
  where
    by : (b : Bool) → test x ≡ b → (list_any test xs ≡ true → (y : A) × (test y ≡ true)) → (b || list_any test xs) ≡ true → (y : A) × (test y ≡ true)
    by true is later or = (x, is)
    by false is later or = later or

none_of : {A : Type 0} (test : A → Bool) (xs : List A) → list_any test xs ≡ false → list_all (λ x. not (test x)) xs ≡ true
none_of test [] none = refl
none_of test (x ∷ xs) none = by (test x) (none_of test xs) none
  where
    by : (b : Bool) → (list_any test xs ≡ false → list_all (λ y. not (test y)) xs ≡ true) → (b || list_any test xs) ≡ false → (not b && list_all (λ y. not (test y)) xs) ≡ true
    by true later or = absurd (cc)
    by false later or = later or

-- A test that holds of a source holds of some.
pub some_source : (test : Source → Bool) (source : Source) → test source ≡ true → list_any test sources ≡ true
some_source test source holds = by (list_any test sources) refl
  where
    by : (b : Bool) → list_any test sources ≡ b → list_any test sources ≡ true
    by true is = is
    by false is = let never = each_source (λ s. not (test s)) (none_of test sources is) source in absurd (let flipped = ap not holds in cc)
