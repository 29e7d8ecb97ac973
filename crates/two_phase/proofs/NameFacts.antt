-- Names that are left where one is taken out.
use Rattle.std.specs.Prelude.{◌≡◌, ℕ, ◌<◌, ◌≤◌, Bool, true, false, not, ◌||◌, List, [], ◌∷◌, length, filter, if◌then◌else◌, refl}
use Rattle.std.specs.List.{list_any}
use Rattle.std.specs.Str.{bytes_eq}
use Rattle.std.proofs.Common.{sym, ap, ◌∙◌, arith}
use Rattle.std.proofs.lemmas.Bool.{false≢true}
use Rattle.std.proofs.lemmas.Slice.Eq.{bytes_eq-Decides}

abbrev pub but : List ℕ → List (List ℕ) → List (List ℕ)
but x names = filter (λ y. not (bytes_eq x y)) names

-- The others are left.
pub others-left : (x y : List ℕ) → bytes_eq x y ≡ false → (names : List (List ℕ)) → list_any (bytes_eq y) names ≡ true → list_any (bytes_eq y) (but x names) ≡ true
others-left x y other [] h = h
others-left x y other (n ∷ ns) h = by_own (bytes_eq x n) refl (bytes_eq y n) refl h (others-left x y other ns)
  where
    by_own : (k : Bool) → bytes_eq x n ≡ k → (b : Bool) → bytes_eq y n ≡ b → (b || list_any (bytes_eq y) ns) ≡ true → (list_any (bytes_eq y) ns ≡ true → list_any (bytes_eq y) (but x ns) ≡ true)
        → list_any (bytes_eq y) (if not k then n ∷ but x ns else but x ns) ≡ true
    by_own true own true same h rest = absurd (false≢true (sym other ∙ ap (bytes_eq x) ((bytes_eq-Decides y n).0 same) ∙ own))
    by_own true own false same h rest = rest h
    by_own false own b same h rest = by_name b same h rest
      where
        by_name : (b : Bool) → bytes_eq y n ≡ b → (b || list_any (bytes_eq y) ns) ≡ true → (list_any (bytes_eq y) ns ≡ true → list_any (bytes_eq y) (but x ns) ≡ true) → (bytes_eq y n || list_any (bytes_eq y) (but x ns)) ≡ true
        by_name true same h rest = ap (λ b. b || list_any (bytes_eq y) (but x ns)) same
        by_name false same h rest = ap (λ b. b || list_any (bytes_eq y) (but x ns)) same ∙ rest h

-- Where it was there, fewer are left.
few-left : (x : List ℕ) (names : List (List ℕ)) → (length (but x names) ≤ length names) × (list_any (bytes_eq x) names ≡ true → length (but x names) < length names)
few-left x [] = (omega arith, λ h. absurd (false≢true h))
few-left x (n ∷ ns) = by_own (bytes_eq x n) (few-left x ns)
  where
    by_own : (k : Bool) → (length (but x ns) ≤ length ns) × (list_any (bytes_eq x) ns ≡ true → length (but x ns) < length ns)
        → (length (if not k then n ∷ but x ns else but x ns) ≤ length (n ∷ ns)) × ((k || list_any (bytes_eq x) ns) ≡ true → length (if not k then n ∷ but x ns else but x ns) < length (n ∷ ns))
    by_own true rest = let most = rest.0 in (omega (arith, most), λ h. omega (arith, most))
    by_own false rest = let most = rest.0 in (omega (arith, most), λ h. let less = rest.1 h in omega (arith, less))

pub fewer-left : (x : List ℕ) (names : List (List ℕ)) → list_any (bytes_eq x) names ≡ true → length (but x names) < length names
fewer-left x names inside = (few-left x names).1 inside
