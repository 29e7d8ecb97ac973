-- Items of lists: what holds of each, what stands before a place and behind it, and how many pass a test.
use Rattle.std.specs.Prelude.{◌≡◌, ℕ, zero, suc, ◌+◌, Bool, true, false, ◌||◌, cond, count_by, List, [], ◌∷◌, ◌++◌, take, drop, map, slice_get, Some, refl}
use Rattle.std.specs.List.{AllByRecursion, list_any}
use Rattle.std.proofs.Common.{sym, ap, subst, ◌∙◌, arith}
use Rattle.std.proofs.lemmas.Bool.{or_right}
use Rattle.std.proofs.lemmas.List.{take_more}
use Rattle.std.proofs.lemmas.List.Sums.{sum_by-cons}
use Rattle.std.proofs.lemmas.Option.{get_or_from_slice_get, none-some, same_Some, slice_get_within}

-- What holds of each holds of the one at a place; and what holds of the one at each place holds of each.
pub each-at : {A : Type 0} (P : A → Type 0) (xs : List A) (i : ℕ) (x : A) → AllByRecursion P xs → slice_get xs i ≡ Some x → P x
each-at P [] i x all found = absurd (none-some x found)
each-at P (y ∷ ys) zero x all found = subst P (same_Some y x found) all.0
each-at P (y ∷ ys) (suc i) x all found = each-at P ys i x all.1 found

pub all-from : {A : Type 0} (P : A → Type 0) (xs : List A) → ((i : ℕ) (x : A) → slice_get xs i ≡ Some x → P x) → AllByRecursion P xs
all-from P [] each = tt
all-from P (x ∷ xs) each = (each 0 x refl, all-from P xs (λ i y at. each (suc i) y at))

pub all-append : {A : Type 0} (P : A → Type 0) (xs ys : List A) → AllByRecursion P xs → AllByRecursion P ys → AllByRecursion P (xs ++ ys)
all-append P [] ys first second = second
all-append P (x ∷ xs) ys first second = (first.0, all-append P xs ys first.1 second)

-- A row is what stands before a place, what stands there, and the rest.
pub split-at : {A : Type 0} (xs : List A) (k : ℕ) (x : A) → slice_get xs k ≡ Some x → xs ≡ take k xs ++ x ∷ drop (suc k) xs
split-at [] k x at = absurd (none-some x at)
split-at (y ∷ ys) zero x at = ap (λ z. z ∷ ys) (same_Some y x at)
split-at (y ∷ ys) (suc k) x at = ap (λ zs. y ∷ zs) (split-at ys k x at)

pub take-one : {A : Type 0} (xs : List A) (k : ℕ) (x : A) → slice_get xs k ≡ Some x → take (k + 1) xs ≡ take k xs ++ x ∷ []
take-one xs k x at = take_more xs k x (slice_get_within xs k x at) ∙ ap (λ y. take k xs ++ y ∷ []) (get_or_from_slice_get xs k x x at)

-- None passes where none counts, and one does that stands at a place.
pub none-counts : {A : Type 0} (test : A → Bool) (xs : List A) → count_by test xs ≡ 0 → list_any test xs ≡ false
none-counts test [] h = refl
none-counts test (x ∷ xs) h = by_test (test x) (sym (sum_by-cons (λ y. cond (test y) 1 0) x xs) ∙ h) (none-counts test xs)
  where
    by_test : (b : Bool) → cond b 1 0 + count_by test xs ≡ 0 → (count_by test xs ≡ 0 → list_any test xs ≡ false) → (b || list_any test xs) ≡ false
    by_test true h rest = absurd (omega (arith, h))
    by_test false h rest = rest (omega (arith, h))

pub any-mapped : {A B : Type 0} (test : B → Bool) (g : A → B) (xs : List A) (i : ℕ) (x : A) → slice_get xs i ≡ Some x → test (g x) ≡ true → list_any test (map g xs) ≡ true
any-mapped test g [] i x at h = absurd (none-some x at)
any-mapped test g (y ∷ ys) zero x at h = ap (λ b. b || list_any test (map g ys)) (ap (λ z. test (g z)) (same_Some y x at) ∙ h)
any-mapped test g (y ∷ ys) (suc i) x at h = or_right (test (g y)) (list_any test (map g ys)) (any-mapped test g ys i x at h)
