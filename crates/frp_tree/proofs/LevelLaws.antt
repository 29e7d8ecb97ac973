-- Laws on levels: an expression of a level is one of each looser level.
use Rattle.std.proofs.Common.{◌≡◌, ℕ, zero, suc, ◌+◌, ◌-◌, ◌<◌, ◌≤◌, false, List, refl, sym, ap, subst, ◌∙◌, arith}
use Rattle.frp_tree.specs.declared.levels.Level.{Level}
use Rattle.frp_tree.specs.declared.levels.Level.TheVariants as level
use Rattle.frp_tree.specs.Tree.{Tree}
use Rattle.frp_tree.specs.Levels.{height, tighter, is_operand}
use Rattle.frp_tree.specs.Cells.{Cell}
use Rattle.frp_tree.specs.Grammar.{SpellsExpr, alone}

abbrev level_at : ℕ → Level
level_at zero = level.Whole
level_at (suc n) = tighter (level_at n)

at_height : (l : Level) → level_at (height l) ≡ l
at_height level.Whole = refl
at_height level.Or = refl
at_height level.And = refl
at_height level.Comparison = refl
at_height level.BitOr = refl
at_height level.BitXor = refl
at_height level.BitAnd = refl
at_height level.Shift = refl
at_height level.Sum = refl
at_height level.Term = refl
at_height level.Operand = refl

pub same_height : (m l : Level) → height m ≡ height l → m ≡ l
same_height m l h = sym (at_height m) ∙ ap level_at h ∙ at_height l

pub no_operand : (l : Level) → height l < 10 → is_operand l ≡ false
no_operand level.Whole h = refl
no_operand level.Or h = refl
no_operand level.And h = refl
no_operand level.Comparison h = refl
no_operand level.BitOr h = refl
no_operand level.BitXor h = refl
no_operand level.BitAnd h = refl
no_operand level.Shift h = refl
no_operand level.Sum h = refl
no_operand level.Term h = refl
no_operand level.Operand h = absurd (omega arith)

pub height_at_most : (l : Level) → height l ≤ 10
height_at_most level.Whole = omega arith
height_at_most level.Or = omega arith
height_at_most level.And = omega arith
height_at_most level.Comparison = omega arith
height_at_most level.BitOr = omega arith
height_at_most level.BitXor = omega arith
height_at_most level.BitAnd = omega arith
height_at_most level.Shift = omega arith
height_at_most level.Sum = omega arith
height_at_most level.Term = omega arith
height_at_most level.Operand = omega arith

pub tighter_height : (l : Level) → is_operand l ≡ false → height (tighter l) ≡ height l + 1
tighter_height level.Whole h = refl
tighter_height level.Or h = refl
tighter_height level.And h = refl
tighter_height level.Comparison h = refl
tighter_height level.BitOr h = refl
tighter_height level.BitXor h = refl
tighter_height level.BitAnd h = refl
tighter_height level.Shift h = refl
tighter_height level.Sum h = refl
tighter_height level.Term h = refl
tighter_height level.Operand h = cc

climb : (k : ℕ) (m l : Level) {n : ℕ} {e : Tree} {w : List Cell} → height m + k ≡ height l → SpellsExpr l n e w → SpellsExpr m n e w
climb zero m l {n = n} {e = e} {w = w} h s = let same : height l ≡ height m = omega arith in subst (λ x. SpellsExpr x n e w) (same_height l m same) s
climb (suc k) m l {n = n} {e = e} {w = w} h s =
    let low : height m < 10 = omega (arith, height_at_most l) in
    let o : is_operand m ≡ false = no_operand m low in
    let up : height (tighter m) ≡ height m + 1 = tighter_height m o in
    alone o (climb k (tighter m) l {n = n} {e = e} {w = w} (omega arith) s)

-- An expression of a level is one of each looser level.
pub loosen : (m l : Level) {n : ℕ} {e : Tree} {w : List Cell} → height m ≤ height l → SpellsExpr l n e w → SpellsExpr m n e w
loosen m l h s = climb (height l - height m) m l (omega arith) s
