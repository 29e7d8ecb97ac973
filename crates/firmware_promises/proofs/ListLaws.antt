-- Lists that one more item makes longer.
use Rattle.std.specs.Prelude.{List, [], ◌∷◌, ◌++◌}
use Rattle.std.proofs.Common.{◌≡◌}

module _ {A : Type 0} where
  -- No list is itself with one more item.
  pub no_longer : (xs : List A) (e : A) → xs ≡ xs ++ e ∷ [] → ⊥
  no_longer [] e h = let it = h in cc
  no_longer (x ∷ xs) e h = no_longer xs e (let it = h in cc)

  -- What one list has behind it is one item.
  pub same_last : (xs : List A) (d e : A) → xs ++ d ∷ [] ≡ xs ++ e ∷ [] → e ≡ d
  same_last [] d e h = let it = h in cc
  same_last (x ∷ xs) d e h = same_last xs d e (let it = h in cc)
