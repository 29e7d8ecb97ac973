-- The distinct numbers of a row, from one of its places on.
use Rattle.std.specs.Prelude.{◌≡◌, ℕ, ◌+◌, ◌<◌, ◌==◌, nat_le, true, false, List, ◌∷◌, length, filter, if◌then◌else◌}
use Rattle.std.specs.List.{list_any}
use Rattle.std.proofs.Common.{sym, ap, subst, ◌∙◌, add-one, drop, get_or, drop-cons}
use Rattle.std.proofs.lemmas.Bool.{eqb-true}
use Rattle.std.proofs.lemmas.Map.Views.{any-filter_same}
use Rattle.efrp_meaning.specs.Bounds.{distinct}

parted : (xs : List ℕ) (i d : ℕ) → i < length xs → drop i xs ≡ get_or xs i d ∷ drop (i + 1) xs
parted xs i d less = drop-cons xs i d less ∙ ap (λ k. get_or xs i d ∷ drop k xs) (sym (add-one i))

-- A number in front doesn't count where it comes again, and counts where it doesn't.
seen : (x : ℕ) (xs : List ℕ) → list_any (λ m. m == x) xs ≡ true → distinct (x ∷ xs) ≡ distinct xs
seen x xs again = ap (λ b. if b then distinct xs else 1 + distinct xs) again

once : (x : ℕ) (xs : List ℕ) → list_any (λ m. m == x) xs ≡ false → distinct (x ∷ xs) ≡ 1 + distinct xs
once x xs new = ap (λ b. if b then distinct xs else 1 + distinct xs) new

pub seen-at : (xs : List ℕ) (i d : ℕ) → i < length xs → list_any (λ m. m == get_or xs i d) (drop (i + 1) xs) ≡ true → distinct (drop i xs) ≡ distinct (drop (i + 1) xs)
seen-at xs i d less again = ap distinct (parted xs i d less) ∙ seen (get_or xs i d) (drop (i + 1) xs) again

pub once-at : (xs : List ℕ) (i d : ℕ) → i < length xs → list_any (λ m. m == get_or xs i d) (drop (i + 1) xs) ≡ false → distinct (drop i xs) ≡ 1 + distinct (drop (i + 1) xs)
once-at xs i d less new = ap distinct (parted xs i d less) ∙ once (get_or xs i d) (drop (i + 1) xs) new

-- The numbers that are at most this one.
abbrev pub up_to : ℕ → List ℕ → List ℕ
up_to most xs = filter (λ n. nat_le n most) xs

over : (most x : ℕ) (xs : List ℕ) → nat_le x most ≡ false → up_to most (x ∷ xs) ≡ up_to most xs
over most x xs large = ap (λ b. if b then x ∷ up_to most xs else up_to most xs) large

within : (most x : ℕ) (xs : List ℕ) → nat_le x most ≡ true → up_to most (x ∷ xs) ≡ x ∷ up_to most xs
within most x xs small = ap (λ b. if b then x ∷ up_to most xs else up_to most xs) small

-- A number that is at most this one comes again among all exactly where it does among those.
again-within : (most x : ℕ) (xs : List ℕ) → nat_le x most ≡ true → list_any (λ m. m == x) (up_to most xs) ≡ list_any (λ m. m == x) xs
again-within most x xs small = any-filter_same (λ m. m == x) (λ n. nat_le n most) true (λ k is. subst (λ n. nat_le n most ≡ true) (sym (eqb-true k x is)) small) xs

pub over-at : (most : ℕ) (xs : List ℕ) (i d : ℕ) → i < length xs → nat_le (get_or xs i d) most ≡ false → distinct (up_to most (drop i xs)) ≡ distinct (up_to most (drop (i + 1) xs))
over-at most xs i d less large = ap (λ ys. distinct (up_to most ys)) (parted xs i d less) ∙ ap distinct (over most (get_or xs i d) (drop (i + 1) xs) large)

pub within-seen-at : (most : ℕ) (xs : List ℕ) (i d : ℕ) → i < length xs → nat_le (get_or xs i d) most ≡ true → list_any (λ m. m == get_or xs i d) (drop (i + 1) xs) ≡ true
    → distinct (up_to most (drop i xs)) ≡ distinct (up_to most (drop (i + 1) xs))
within-seen-at most xs i d less small again =
    let x = get_or xs i d in
    let rest = drop (i + 1) xs in
    ap (λ ys. distinct (up_to most ys)) (parted xs i d less) ∙ ap distinct (within most x rest small) ∙ seen x (up_to most rest) (again-within most x rest small ∙ again)

pub within-once-at : (most : ℕ) (xs : List ℕ) (i d : ℕ) → i < length xs → nat_le (get_or xs i d) most ≡ true → list_any (λ m. m == get_or xs i d) (drop (i + 1) xs) ≡ false
    → distinct (up_to most (drop i xs)) ≡ 1 + distinct (up_to most (drop (i + 1) xs))
within-once-at most xs i d less small new =
    let x = get_or xs i d in
    let rest = drop (i + 1) xs in
    ap (λ ys. distinct (up_to most ys)) (parted xs i d less) ∙ ap distinct (within most x rest small) ∙ once x (up_to most rest) (again-within most x rest small ∙ new)
