-- For each source: a finite test that holds of all sources is a rule.
use Rattle.std.specs.List.{list_all}
use Rattle.std.proofs.Common.{◌≡◌, ℕ, zero, suc, ◌<◌, refl, Bool, true, List, [], ◌∷◌, length, get_or, subst, arith, lit<}
use Rattle.std.proofs.lemmas.Bool.{and_parts}
use Rattle.pic_isa.specs.declared.sources.Source.{Source}
use Rattle.pic_isa.specs.declared.sources.Source.TheVariants.{T0}
use Rattle.pic_isa.specs.Sources.{sources, source_number}

-- A test that holds of a whole list holds at each place of it.
list_all-at : (test : Source → Bool) (list : List Source) → list_all test list ≡ true → (n : ℕ) → n < length list → test (get_or list n T0) ≡ true
list_all-at test [] all n inside = absurd (omega (arith, inside))
list_all-at test (source ∷ list) all zero inside = (and_parts (test source) (list_all test list) all).0
list_all-at test (source ∷ list) all (suc n) inside = list_all-at test list (and_parts (test source) (list_all test list) all).1 n (omega (arith, inside))

-- Each source stands among all sources at its number.
number-below : (source : Source) → source_number source < 11
number-below T0 = lit< tt
number-below _ = lit< tt

at_number : (source : Source) → get_or sources (source_number source) T0 ≡ source
at_number T0 = refl
at_number _ = refl

-- A test that holds of all sources holds of each.
pub each_source : (test : Source → Bool) → list_all test sources ≡ true → (source : Source) → test source ≡ true
each_source test all source = subst (λ s. test s ≡ true) (at_number source) (list_all-at test sources all (source_number source) (number-below source))
