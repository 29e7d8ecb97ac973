-- Names in lists, and lists without a name.
use Rattle.std.specs.Prelude.{◌≡◌, ℕ, ◌<◌, ◌≤◌, ◌⊎◌, Bool, true, false, not, ◌||◌, ◌&&◌, List, [], ◌∷◌, length, filter, refl, if◌then◌else◌}
use Rattle.std.specs.List.{list_any, list_all}
use Rattle.std.specs.Str.{bytes_eq}
use Rattle.std.proofs.Common.{sym, ap, subst, ◌∙◌, arith}
use Rattle.std.proofs.lemmas.Bool.{and_parts, false≢true}
use Rattle.std.proofs.lemmas.Slice.Eq.{bytes_eq-Decides}
use mathlib.Core.Logic.{inl, inr}

pub or-right : (a b : Bool) → b ≡ true → (a || b) ≡ true
or-right true b h = refl
or-right false b h = h

abbrev pub is_in : List (List ℕ) → List ℕ → Bool
is_in names x = list_any (bytes_eq x) names

pub same_bytes : (x : List ℕ) → bytes_eq x x ≡ true
same_bytes x = (bytes_eq-Decides x x).1 refl

-- Two names are one from both sides, or from none.
abbrev pub Sides : List ℕ → List ℕ → Type 0
Sides n x = ((bytes_eq n x ≡ true) × (bytes_eq x n ≡ true)) ⊎ ((bytes_eq n x ≡ false) × (bytes_eq x n ≡ false))

pub sides : (n x : List ℕ) → Sides n x
sides n x = by_first (bytes_eq n x) refl (bytes_eq x n) refl
  where
    turned : (a b : List ℕ) → bytes_eq a b ≡ true → bytes_eq b a ≡ true
    turned a b e = (bytes_eq-Decides b a).1 (sym ((bytes_eq-Decides a b).0 e))

    by_first : (b : Bool) → bytes_eq n x ≡ b → (c : Bool) → bytes_eq x n ≡ c → Sides n x
    by_first true e true f = inl (e, f)
    by_first true e false f = absurd (false≢true (sym f ∙ turned n x e))
    by_first false e true f = absurd (false≢true (sym e ∙ turned x n f))
    by_first false e false f = inr (e, f)

-- What holds of each name of a list holds of one of them.
pub member-passes : (test : List ℕ → Bool) (y : List ℕ) (names : List (List ℕ)) → list_all test names ≡ true → is_in names y ≡ true → test y ≡ true
member-passes test y [] passes found = absurd (false≢true found)
member-passes test y (n ∷ ns) passes found = by_name (bytes_eq y n) refl found (member-passes test y ns (and_parts _ _ passes).1)
  where
    by_name : (b : Bool) → bytes_eq y n ≡ b → (b || is_in ns y) ≡ true → (is_in ns y ≡ true → test y ≡ true) → test y ≡ true
    by_name true e found rest = subst (λ m. test m ≡ true) (sym ((bytes_eq-Decides y n).0 e)) (and_parts _ _ passes).0
    by_name false e found rest = rest found

-- And the other way round.
pub all-pass : (test : List ℕ → Bool) (names : List (List ℕ)) → ((y : List ℕ) → is_in names y ≡ true → test y ≡ true) → list_all test names ≡ true
all-pass test [] each = refl
all-pass test (n ∷ ns) each =
    ap (λ b. b && list_all test ns) (each n (ap (λ b. b || is_in ns n) (same_bytes n)))
    ∙ all-pass test ns (λ y inside. each y (or-right (bytes_eq y n) (is_in ns y) inside))

-- Where not all pass, one doesn't.
pub one-fails : (test : List ℕ → Bool) (names : List (List ℕ)) → list_all test names ≡ false → (y : List ℕ) × (is_in names y ≡ true) × (test y ≡ false)
one-fails test [] fails = absurd (false≢true (sym fails))
one-fails test (n ∷ ns) fails = by_test (test n) refl fails (one-fails test ns)
  where
    by_test : (b : Bool) → test n ≡ b → (b && list_all test ns) ≡ false → (list_all test ns ≡ false → (y : List ℕ) × (is_in ns y ≡ true) × (test y ≡ false))
        → (y : List ℕ) × ((bytes_eq y n || is_in ns y) ≡ true) × (test y ≡ false)
    by_test true e fails rest = let found = rest fails in (found.0, or-right (bytes_eq found.0 n) (is_in ns found.0) found.1, found.2)
    by_test false e fails rest = (n, ap (λ b. b || is_in ns n) (same_bytes n), e)

-- A list without a name that is in it is shorter.
abbrev pub without : List ℕ → List (List ℕ) → List (List ℕ)
without x names = filter (λ y. not (bytes_eq x y)) names

without-no-longer : (x : List ℕ) (names : List (List ℕ)) → length (without x names) ≤ length names
without-no-longer x [] = omega arith
without-no-longer x (n ∷ ns) = by_name (bytes_eq x n) (without-no-longer x ns)
  where
    by_name : (b : Bool) → length (without x ns) ≤ length ns → length (if not b then n ∷ without x ns else without x ns) ≤ length (n ∷ ns)
    by_name true h = omega arith
    by_name false h = omega arith

pub without-shorter : (x : List ℕ) (names : List (List ℕ)) → list_any (bytes_eq x) names ≡ true → length (without x names) < length names
without-shorter x [] h = absurd (false≢true h)
without-shorter x (n ∷ ns) h = by_name (bytes_eq x n) h (without-no-longer x ns) (without-shorter x ns)
  where
    by_name : (b : Bool) → (b || list_any (bytes_eq x) ns) ≡ true → length (without x ns) ≤ length ns → (list_any (bytes_eq x) ns ≡ true → length (without x ns) < length ns) → length (if not b then n ∷ without x ns else without x ns) < length (n ∷ ns)
    by_name true h most rest = omega arith
    by_name false h most rest = let less = rest h in omega (arith, less)

-- It has the other names.
pub others-kept : (x y : List ℕ) → bytes_eq x y ≡ false → (names : List (List ℕ)) → list_any (bytes_eq y) names ≡ true → list_any (bytes_eq y) (without x names) ≡ true
others-kept x y other [] h = h
others-kept x y other (n ∷ ns) h = by_name (bytes_eq y n) refl (bytes_eq x n) refl h (others-kept x y other ns)
  where
    by_name : (b : Bool) → bytes_eq y n ≡ b → (k : Bool) → bytes_eq x n ≡ k → (b || list_any (bytes_eq y) ns) ≡ true
        → (list_any (bytes_eq y) ns ≡ true → list_any (bytes_eq y) (without x ns) ≡ true)
        → list_any (bytes_eq y) (if not k then n ∷ without x ns else without x ns) ≡ true
    by_name true same true own h rest = absurd (false≢true (sym other ∙ ap (bytes_eq x) ((bytes_eq-Decides y n).0 same) ∙ own))
    by_name true same false own h rest = ap (λ b. b || list_any (bytes_eq y) (without x ns)) same
    by_name false same true own h rest = rest h
    by_name false same false own h rest = ap (λ b. b || list_any (bytes_eq y) (without x ns)) same ∙ rest h
