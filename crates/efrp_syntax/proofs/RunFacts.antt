-- The longest run of bytes of a class at the beginning of a text.
use Rattle.std.proofs.Common.{◌≡◌, ℕ, ◌+◌, Bool, true, false, cond, List, [], ◌∷◌, take, drop, refl, ap, subst, sym}
use Rattle.std.specs.List.{list_all, prefix_len}
use Rattle.std.proofs.Math.Numerals.{one-add}
use Rattle.std.proofs.lemmas.Bool.{and_from}
use Rattle.efrp_syntax.specs.Pieces.{IsRun}

-- The elements up to the first that doesn't pass are a run.
pub run_prefix : (p : ℕ → Bool) (xs : List ℕ) → IsRun p xs (take (prefix_len p xs) xs) (drop (prefix_len p xs) xs)
run_prefix p [] = record { spelled = refl; all = refl; ends = refl }
run_prefix p (x ∷ xs) = go (p x) refl (run_prefix p xs)
  where
    go : (b : Bool) → p x ≡ b → IsRun p xs (take (prefix_len p xs) xs) (drop (prefix_len p xs) xs) → IsRun p (x ∷ xs) (take (cond b (1 + prefix_len p xs) 0) (x ∷ xs)) (drop (cond b (1 + prefix_len p xs) 0) (x ∷ xs))
    go true e r = subst (λ n. IsRun p (x ∷ xs) (take n (x ∷ xs)) (drop n (x ∷ xs))) (sym (one-add (prefix_len p xs))) (record { spelled = ap (λ ys. x ∷ ys) r.spelled; all = and_from (p x) (list_all p (take (prefix_len p xs) xs)) e r.all; ends = r.ends })
    go false e r = record { spelled = refl; all = refl; ends = e }
