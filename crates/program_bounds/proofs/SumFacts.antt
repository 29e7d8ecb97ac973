-- Sums over lists as far as a loop has come, and the greatest of several numbers.
use Rattle.std.specs.Prelude.{◌≡◌, ℕ, ◌+◌, ◌*◌, ◌≤◌, max, List, [], ◌∷◌, ◌++◌, length, map, sum_by, slice_get, Some}
use Rattle.std.proofs.Common.{ap, arith, refl, take, ◌∙◌}
use Rattle.std.proofs.lemmas.List.Sums.{sum_by-cons, sum_by-take-le, sum_by_push}
use Rattle.efrp_meaning.specs.Bounds.{greatest}
use Rattle.event_needs.proofs.ListLaws.{take-one}

-- One item more.
pub sum-more : {A : Type 0} (g : A → ℕ) (zs : List A) (i : ℕ) (z : A) (total own new : ℕ) → slice_get zs i ≡ Some z → total ≡ sum_by g (take i zs) → own ≡ g z → new ≡ total + own → new ≡ sum_by g (take (i + 1) zs)
sum-more g zs i z total own new at so_far is next =
    let whole = ap (sum_by g) (take-one zs i z at) ∙ sum_by_push g (take i zs) z in
    omega (arith, so_far, is, next, whole)

-- It is within the sum of all.
pub sum-within : {A : Type 0} (g : A → ℕ) (zs : List A) (i : ℕ) (z : A) (total own : ℕ) → slice_get zs i ≡ Some z → total ≡ sum_by g (take i zs) → own ≡ g z → total + own ≤ sum_by g zs
sum-within g zs i z total own at so_far is =
    let whole = ap (sum_by g) (take-one zs i z at) ∙ sum_by_push g (take i zs) z in
    let part = sum_by-take-le g zs (i + 1) in
    omega (arith, so_far, is, whole, part)

pub one-within : {A : Type 0} (g : A → ℕ) (zs : List A) (i : ℕ) (z : A) → slice_get zs i ≡ Some z → g z ≤ sum_by g zs
one-within g zs i z at = let within = sum-within g zs i z (sum_by g (take i zs)) (g z) at refl refl in omega (arith, within)

-- A sum of numbers that are each at most so many.
pub sum-few : {A : Type 0} (g : A → ℕ) (most : ℕ) → ((z : A) → g z ≤ most) → (zs : List A) → sum_by g zs ≤ most * length zs
sum-few g most few [] = omega arith
sum-few g most few (z ∷ zs) = let own = few z in let rest = sum-few g most few zs in let split = sum_by-cons g z zs in omega (arith, own, rest, split)

pub greatest-few : {A : Type 0} (g : A → ℕ) (most : ℕ) → ((z : A) → g z ≤ most) → (zs : List A) → greatest (map g zs) ≤ most
greatest-few g most few [] = omega arith
greatest-few g most few (z ∷ zs) = let own = few z in let rest = greatest-few g most few zs in omega (arith, own, rest)

greatest-push : (ns : List ℕ) (n : ℕ) → greatest (ns ++ n ∷ []) ≡ max (greatest ns) n
greatest-push [] n = omega arith
greatest-push (m ∷ ms) n = let rest = greatest-push ms n in omega (arith, rest)

map-push : {A : Type 0} (g : A → ℕ) (zs : List A) (z : A) → map g (zs ++ z ∷ []) ≡ map g zs ++ g z ∷ []
map-push g [] z = refl
map-push g (x ∷ xs) z = ap (λ ns. g x ∷ ns) (map-push g xs z)

-- The greatest of one item more.
pub greatest-more : {A : Type 0} (g : A → ℕ) (zs : List A) (i : ℕ) (z : A) (so_far own : ℕ) → slice_get zs i ≡ Some z → so_far ≡ greatest (map g (take i zs)) → own ≡ g z → max so_far own ≡ greatest (map g (take (i + 1) zs))
greatest-more g zs i z so_far own at are is =
    let whole = ap (λ (xs : List _). greatest (map g xs)) (take-one zs i z at) ∙ ap greatest (map-push g (take i zs) z) ∙ greatest-push (map g (take i zs)) (g z) in
    omega (arith, whole, are, is)
