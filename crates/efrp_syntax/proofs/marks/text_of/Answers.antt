use Rattle.std.proofs.Common.{◌≡◌, ℕ, zero, suc, ◌≤◌, List, [], ◌∷◌, length, get_or, map, refl, sym, ap, arith}
use Rattle.std.specs.Borrow.{Bor}
use Rattle.std.proofs.lemmas.List.{get_or_past}
use Rattle.frp_tree.specs.Tokens.{marks}
use Rattle.efrp_syntax.proofs.marks.text_of.Goals as goal

now_at : (xs : List (Bor (List ℕ))) (i : ℕ) (d : Bor (List ℕ)) → (get_or xs i d).now ≡ get_or (map (λ (b : Bor (List ℕ)). b.now) xs) i d.now
now_at [] i d = refl
now_at (x ∷ xs) zero d = refl
now_at (x ∷ xs) (suc i) d = now_at xs i d

pub returns-then-place-lt31 : goal.returns-then-place-lt31
returns-then-place-lt31 c = rw now_at (ap (λ (k : ℕ). get_or marks k []) c.from-place.ensures)

pub returns-else-place-lt31 : goal.returns-else-place-lt31
returns-else-place-lt31 c = let high : length marks ≤ c.args.number = omega (arith, c.if-place-lt31.false, c.from-place.ensures) in sym (get_or_past marks c.args.number [] high)
