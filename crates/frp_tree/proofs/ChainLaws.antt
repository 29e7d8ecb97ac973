-- Expressions told from the left: an expression of a level is one of the next tighter level and then a row of the level's
-- operators, each with its right operand.
use Rattle.std.proofs.Common.{◌≡◌, ℕ, suc, Bool, true, false, List, [], ◌∷◌, ◌++◌, codes, Option, Some, None, refl, sym, ap, subst, ◌∙◌}
use Rattle.std.proofs.lemmas.Bool.{false≢true}
use Rattle.std.proofs.lemmas.List.{append_assoc, append-nil}
use Rattle.frp_tree.specs.declared.syntax.Ty.{Ty}
use Rattle.frp_tree.specs.declared.syntax.Lit.{Lit}
use Rattle.frp_tree.specs.declared.syntax.UnOp.{UnOp}
use Rattle.frp_tree.specs.declared.syntax.BinOp.{BinOp}
use Rattle.frp_tree.specs.declared.syntax.BinOp.TheVariants as binary
use Rattle.frp_tree.specs.declared.syntax.Side.{Side}
use Rattle.frp_tree.specs.declared.levels.Level.{Level}
use Rattle.frp_tree.specs.declared.levels.Level.TheVariants as level
use Rattle.frp_tree.specs.declared.marks.TheConstants as mark
use Rattle.frp_tree.specs.declared.tokens.Token.TheVariants.{Word, Num, Mark}
use Rattle.frp_tree.specs.Names.{type_name, is_keyword}
use Rattle.frp_tree.specs.Limits.{is_number_type}
use Rattle.frp_tree.specs.Tree.{Tree, Const, Name, Unary, Binary, Shift, If, Convert, Look}
use Rattle.frp_tree.specs.Levels.{tighter, is_operand, repeats, level_of, mark_of, mark_of_shift, mark_of_sign}
use Rattle.frp_tree.specs.Cells.{Cell, plain, node, opening_node, opening, literal_token}
use Rattle.frp_tree.specs.Grammar.{word, sign, SpellsExpr, literal, named, looked, brackets, signed, converted, chosen, shifted, joined, compared, alone}

-- With no left operand a whole expression; with one what comes of it by the operators behind it.
pub data Chain : Option Tree → Level → ℕ → Tree → List Cell → Type 0 where
  of_literal : {d : ℕ} {l : Lit} → Chain None level.Operand d (Const l) (node (literal_token l) ∷ [])
  of_name : {d : ℕ} {x : List ℕ} → is_keyword x ≡ false → Chain None level.Operand d (Name x) (node (Word x) ∷ [])
  of_look : {d : ℕ} {x : List ℕ} {e : Tree} (ts : List Cell) → is_keyword x ≡ false → Chain None level.Whole (suc d) e ts
      → Chain None level.Operand d (Look x e) (node (Word x) ∷ opening (suc d) (Mark mark.OPENING_BRACKET) ∷ (ts ++ sign mark.CLOSING_BRACKET ∷ []))
  of_brackets : {d : ℕ} {e : Tree} (ts : List Cell) → Chain None level.Whole (suc d) e ts
      → Chain None level.Operand d e (opening (suc d) (Mark mark.OPENING_PARENTHESIS) ∷ (ts ++ sign mark.CLOSING_PARENTHESIS ∷ []))
  of_sign : {d : ℕ} {op : UnOp} {e : Tree} (ts : List Cell) → Chain None level.Operand (suc d) e ts
      → Chain None level.Operand d (Unary op e) (opening_node (suc d) (Mark (mark_of_sign op)) ∷ ts)
  of_conversion : {d : ℕ} {to : Ty} {e : Tree} (ts : List Cell) → is_number_type to ≡ true → Chain None level.Whole (suc d) e ts
      → Chain None level.Operand d (Convert to e) (opening_node (suc d) (Word (type_name to)) ∷ sign mark.OPENING_PARENTHESIS ∷ (ts ++ sign mark.CLOSING_PARENTHESIS ∷ []))
  of_choice : {d : ℕ} {c a b : Tree} (ts us vs : List Cell) → Chain None level.Whole (suc d) c ts → Chain None level.Whole (suc d) a us → Chain None level.Whole (suc d) b vs
      → Chain None level.Whole d (If c a b) (opening_node (suc d) (Word (codes "if")) ∷ (ts ++ word (codes "then") ∷ (us ++ word (codes "else") ∷ vs)))
  of_row : {l : Level} {d : ℕ} {a e : Tree} (ts us : List Cell) → is_operand l ≡ false → Chain None (tighter l) d a ts → Chain (Some a) l d e us → Chain None l d e (ts ++ us)
  ends : {l : Level} {d : ℕ} {a : Tree} → Chain (Some a) l d a []
  by_shift : {d : ℕ} {side : Side} {a e : Tree} {n : ℕ} (us : List Cell) → Chain (Some (Shift side a n)) level.Shift d e us
      → Chain (Some a) level.Shift d e (node (Mark (mark_of_shift side)) ∷ plain (Num n) ∷ us)
  by_operator : {l : Level} {d : ℕ} {op : BinOp} {a b e : Tree} (ts us : List Cell) → level_of op ≡ l → repeats l ≡ true → Chain None (tighter l) d b ts → Chain (Some (Binary op a b)) l d e us
      → Chain (Some a) l d e (node (Mark (mark_of op)) ∷ (ts ++ us))
  by_comparison : {l : Level} {d : ℕ} {op : BinOp} {a b : Tree} (ts : List Cell) → level_of op ≡ l → repeats l ≡ false → Chain None (tighter l) d b ts
      → Chain (Some a) l d (Binary op a b) (node (Mark (mark_of op)) ∷ ts)

-- No operator is of the loosest or of the tightest level, or a shift's.
abbrev pub is_binary : Level → Bool
is_binary level.Whole = false
is_binary level.Operand = false
is_binary level.Shift = false
is_binary _ = true

pub binary_level : (op : BinOp) → is_binary (level_of op) ≡ true
binary_level binary.Or = refl
binary_level binary.And = refl
binary_level binary.Eq = refl
binary_level binary.Ne = refl
binary_level binary.Lt = refl
binary_level binary.Le = refl
binary_level binary.Gt = refl
binary_level binary.Ge = refl
binary_level binary.BitOr = refl
binary_level binary.BitXor = refl
binary_level binary.BitAnd = refl
binary_level binary.Add = refl
binary_level binary.Sub = refl
binary_level binary.Mul = refl
binary_level binary.Div = refl
binary_level binary.Rem = refl

-- A step from one left operand to the next.
abbrev Step : Level → ℕ → Tree → Tree → List Cell → Type 0
Step l d a b v = (e : Tree) (us : List Cell) → Chain (Some b) l d e us → Chain (Some a) l d e (v ++ us)

one_more : {l : Level} {d : ℕ} {x a b : Tree} {us : List Cell} (v : List Cell) → repeats l ≡ true → Step l d a b v → Chain (Some x) l d a us → Chain (Some x) l d b (us ++ v)
one_more {l = l} {d = d} {b = b} v r step (ends {a = a}) = subst (Chain (Some a) l d b) (append-nil v) (step b [] ends)
one_more v r step (by_shift {side = side} {n = n} us c) = by_shift (us ++ v) (one_more v r step c)
one_more {l = l} {d = d} {x = x} {b = b} v r step (by_operator {op = op} ts us o s t c) = subst (λ w. Chain (Some x) l d b (node (Mark (mark_of op)) ∷ w)) (sym (append_assoc ts us v)) (by_operator ts (us ++ v) o s t (one_more v r step c))
one_more v r step (by_comparison ts o s t) = absurd (false≢true (sym s ∙ r))

-- One more operator at the end of an expression of its level.
abbrev IsBetween : Level → Type 0
IsBetween l = (l ≡ level.Whole → ⊥) × (l ≡ level.Operand → ⊥)

extend : {l : Level} {d : ℕ} {a b : Tree} {w : List Cell} (v : List Cell) → IsBetween l → repeats l ≡ true → Step l d a b v → Chain None l d a w → Chain None l d b (w ++ v)
extend v k r step of_literal = absurd (k.1 refl)
extend v k r step (of_name x) = absurd (k.1 refl)
extend v k r step (of_look ts x c) = absurd (k.1 refl)
extend v k r step (of_brackets ts c) = absurd (k.1 refl)
extend v k r step (of_sign ts c) = absurd (k.1 refl)
extend v k r step (of_conversion ts t c) = absurd (k.1 refl)
extend v k r step (of_choice ts us vs c a b) = absurd (k.0 refl)
extend {l = l} {d = d} {b = b} v k r step (of_row ts us o c g) = subst (Chain None l d b) (sym (append_assoc ts us v)) (of_row ts (us ++ v) o c (one_more v r step g))

between : (op : BinOp) (l : Level) → level_of op ≡ l → IsBetween l
between op l o = (λ e. false≢true (ap is_binary (sym (o ∙ e)) ∙ binary_level op), λ e. false≢true (ap is_binary (sym (o ∙ e)) ∙ binary_level op))

pub no_operand_op : (op : BinOp) (l : Level) → level_of op ≡ l → is_operand l ≡ false
no_operand_op op l o = go l (between op l o).1
  where
    go : (l : Level) → (l ≡ level.Operand → ⊥) → is_operand l ≡ false
    go level.Operand n = absurd (n refl)
    go level.Whole n = refl
    go level.Or n = refl
    go level.And n = refl
    go level.Comparison n = refl
    go level.BitOr n = refl
    go level.BitXor n = refl
    go level.BitAnd n = refl
    go level.Shift n = refl
    go level.Sum n = refl
    go level.Term n = refl

row_alone : {l : Level} {d : ℕ} {e : Tree} {w : List Cell} → is_operand l ≡ false → Chain None (tighter l) d e w → Chain None l d e w
row_alone {l = l} {d = d} {e = e} {w = w} o c = subst (Chain None l d e) (append-nil w) (of_row w [] o c ends)

shift_between : IsBetween level.Shift
shift_between = (λ e. cc, λ e. cc)

-- Each expression can be told so.
pub chain : {l : Level} {d : ℕ} {e : Tree} {w : List Cell} → SpellsExpr l d e w → Chain None l d e w
chain literal = of_literal
chain (named x) = of_name x
chain (looked ts x s) = of_look ts x (chain s)
chain (brackets ts s) = of_brackets ts (chain s)
chain (signed ts s) = of_sign ts (chain s)
chain (converted ts t s) = of_conversion ts t (chain s)
chain (chosen ts us vs s t u) = of_choice ts us vs (chain s) (chain t) (chain u)
chain (shifted {d = d} {side = side} {e = e} {n = n} ts s) = extend (node (Mark (mark_of_shift side)) ∷ plain (Num n) ∷ []) shift_between refl (λ x rest c. by_shift rest c) (chain s)
chain (joined {l = l} {op = op} ts us o r s t) = extend (node (Mark (mark_of op)) ∷ us) (between op l o) r (λ x rest c. by_operator us rest o r (chain t) c) (chain s)
chain (compared {l = l} {op = op} ts us o r s t) = of_row ts (node (Mark (mark_of op)) ∷ us) (no_operand_op op l o) (chain s) (by_comparison us o r (chain t))
chain (alone o s) = row_alone o (chain s)
