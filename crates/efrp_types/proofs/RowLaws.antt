-- What holds of each item of a row.
use Rattle.std.proofs.Common.{◌≡◌, ℕ, zero, suc, ◌<◌, List, [], ◌∷◌, length, map, get_or, sym, subst, arith}
use Rattle.std.specs.List.{AllByRecursion}

-- What holds of each holds of the one at a place.
pub all-at : {A : Type 0} (P : A → Type 0) (xs : List A) (i : ℕ) (x : A) → i < length xs → x ≡ get_or xs i x → AllByRecursion P xs → P x
all-at P [] i x less is all = absurd (omega (arith, less))
all-at P (y ∷ ys) zero x less is all = subst P (sym is) all.0
all-at P (y ∷ ys) (suc i) x less is all = all-at P ys i x (omega (arith, less)) is all.1

-- What holds of each that is mapped.
pub all-of : {A B : Type 0} (P : B → Type 0) (g : A → B) (xs : List A) → AllByRecursion P (map g xs) → AllByRecursion (λ x. P (g x)) xs
all-of P g [] all = tt
all-of P g (x ∷ xs) all = (all.0, all-of P g xs all.1)
