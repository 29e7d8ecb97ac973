-- Rows of items: one more at the end, and which differ.
use Rattle.std.proofs.Common.{◌≡◌, ◌≢◌, ℕ, zero, suc, false, List, [], ◌∷◌, ◌++◌, length, map, Some, sym, subst}
use Rattle.std.specs.Prelude.{slice_get}
use Rattle.std.specs.List.{AllByRecursion, IsDistinct}
use Rattle.std.specs.Str.{bytes_eq}
use Rattle.std.proofs.lemmas.Bool.{both_ways}
use Rattle.std.proofs.lemmas.Option.{none-some, same_Some}
use Rattle.std.proofs.lemmas.Slice.Eq.{bytes_eq-Decides}
use Rattle.map_file.specs.MapRules.{AllDiffer}

-- Each that stands in a list with one more at its end is one of the list, or that one.
pub push-at : {A : Type 0} (P : ℕ → A → Type 0) (xs : List A) (y : A) → ((n : ℕ) (x : A) → slice_get xs n ≡ Some x → P n x) → P (length xs) y
    → (n : ℕ) (x : A) → slice_get (xs ++ y ∷ []) n ≡ Some x → P n x
push-at P [] y each last zero x at = subst (P 0) (same_Some y x at) last
push-at P [] y each last (suc n) x at = absurd (none-some x at)
push-at P (z ∷ xs) y each last zero x at = each 0 x at
push-at P (z ∷ xs) y each last (suc n) x at = push-at (λ k. P (suc k)) xs y (λ k w there. each (suc k) w there) last n x at

-- Names that are distinct differ; and so does what tells more than what differs.
others : {A : Type 0} (f : A → List ℕ) (x : A) (xs : List A) → AllByRecursion (λ y. bytes_eq (f x) y ≡ false) (map f xs) → AllByRecursion (λ y. f y ≢ f x) xs
others f x [] all = tt
others f x (y ∷ ys) all = (λ same. both_ways (bytes_eq (f x) (f y)) all.0 ((bytes_eq-Decides (f x) (f y)).1 (sym same)), others f x ys all.1)

pub distinct-differ : {A : Type 0} (f : A → List ℕ) (xs : List A) → IsDistinct bytes_eq (map f xs) → AllDiffer f xs
unfolding IsDistinct
distinct-differ f [] distinct = tt
distinct-differ f (x ∷ xs) distinct = (others f x xs distinct.0, distinct-differ f xs distinct.1)

others-more : {A B C : Type 0} (f : A → B) (g : A → C) → ((x y : A) → g x ≡ g y → f x ≡ f y) → (x : A) (xs : List A) → AllByRecursion (λ y. f y ≢ f x) xs → AllByRecursion (λ y. g y ≢ g x) xs
others-more f g tells x [] all = tt
others-more f g tells x (y ∷ ys) all = (λ same. all.0 (tells y x same), others-more f g tells x ys all.1)

pub differ-more : {A B C : Type 0} (f : A → B) (g : A → C) → ((x y : A) → g x ≡ g y → f x ≡ f y) → (xs : List A) → AllDiffer f xs → AllDiffer g xs
differ-more f g tells [] differ = tt
differ-more f g tells (x ∷ xs) differ = (others-more f g tells x xs differ.0, differ-more f g tells xs differ.1)

-- And what differs of what is mapped.
others-map : {A B C : Type 0} (f : B → C) (g : A → B) (z : C) (xs : List A) → AllByRecursion (λ y. f y ≢ z) (map g xs) → AllByRecursion (λ x. f (g x) ≢ z) xs
others-map f g z [] all = tt
others-map f g z (x ∷ xs) all = (all.0, others-map f g z xs all.1)

pub differ-map : {A B C : Type 0} (f : B → C) (g : A → B) (xs : List A) → AllDiffer f (map g xs) → AllDiffer (λ x. f (g x)) xs
differ-map f g [] differ = tt
differ-map f g (x ∷ xs) differ = (others-map f g (f (g x)) xs differ.0, differ-map f g xs differ.1)
