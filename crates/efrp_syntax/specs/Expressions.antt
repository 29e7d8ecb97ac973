-- What the parts of the reader of expressions answer.
use Rattle.std.specs.Prelude.{◌≡◌, ◌≢◌, ℕ, suc, ◌<◌, Bool, true, false, List, [], ◌∷◌, ◌++◌, Some}
use Rattle.frp_tree.specs.declared.syntax.Ty.{Ty}
use Rattle.frp_tree.specs.declared.syntax.Lit.{Lit}
use Rattle.frp_tree.specs.declared.syntax.UnOp.{UnOp}
use Rattle.frp_tree.specs.declared.syntax.BinOp.{BinOp}
use Rattle.frp_tree.specs.declared.syntax.Side.{Side}
use Rattle.frp_tree.specs.declared.levels.Level.{Level}
use Rattle.frp_tree.specs.declared.levels.Level.TheVariants.{Whole, Or, And, Comparison, BitOr, BitXor, BitAnd, Shift, Sum, Term, Operand}
use Rattle.frp_tree.specs.declared.marks.TheConstants as mark
use Rattle.frp_tree.specs.declared.tokens.Token.{Token}
use Rattle.frp_tree.specs.declared.tokens.Token.TheVariants.{Word, Mark}
use Rattle.frp_tree.specs.Names.{type_name, is_keyword}
use Rattle.frp_tree.specs.Limits.{is_number_type}
use Rattle.frp_tree.specs.Levels.{level_of, mark_of, mark_of_shift, mark_of_sign}
use Rattle.frp_tree.specs.Tree.{Tree, Name, Look}
use Rattle.frp_tree.specs.Cells.{Cell, opening, literal_token}
use Rattle.frp_tree.specs.Grammar.{SpellsExpr, sign}
use Rattle.efrp_syntax.specs.declared.expressions.Start.{Start}
use Rattle.efrp_syntax.specs.declared.expressions.Start.TheVariants as start
use Rattle.efrp_syntax.specs.Answers.{head}

-- How loosely the operators of a level bind.
abbrev pub looseness : Level → ℕ
looseness Operand = 0
looseness Term = 1
looseness Sum = 2
looseness Shift = 3
looseness BitAnd = 4
looseness BitXor = 5
looseness BitOr = 6
looseness Comparison = 7
looseness And = 8
looseness Or = 9
looseness Whole = 10

-- What may follow an expression of a level: no `[`, and no operator but a looser one.
pub record Stops (l : Level) (c : List Token) : Type 0 where
  pub no_index : head c ≢ Some (Mark mark.OPENING_BRACKET)
  pub looser : (op : BinOp) → head c ≡ Some (Mark (mark_of op)) → looseness l < looseness (level_of op)
  pub looser_shift : (side : Side) → head c ≡ Some (Mark (mark_of_shift side)) → looseness l < looseness Shift

-- The levels whose operators stand in a row, shifts aside.
abbrev pub is_row : Level → Bool
is_row Whole = false
is_row Comparison = false
is_row Shift = false
is_row Operand = false
is_row _ = true

-- What stands behind a name: nothing more, or an index.
pub data NameEnd (d : ℕ) (x : List ℕ) : Tree → List Cell → Type 0 where
  alone : NameEnd d x (Name x) []
  index : {e : Tree} (ts : List Cell) → SpellsExpr Whole (suc d) e ts → NameEnd d x (Look x e) (opening (suc d) (Mark mark.OPENING_BRACKET) ∷ (ts ++ sign mark.CLOSING_BRACKET ∷ []))

-- No operand begins so.
pub record IsNoOperand (ts : List Token) : Type 0 where
  pub no_literal : (l : Lit) → head ts ≢ Some (literal_token l)
  pub no_name : (x : List ℕ) → is_keyword x ≡ false → head ts ≢ Some (Word x)
  pub no_bracket : head ts ≢ Some (Mark mark.OPENING_PARENTHESIS)
  pub no_sign : (op : UnOp) → head ts ≢ Some (Mark (mark_of_sign op))
  pub no_conversion : (to : Ty) → is_number_type to ≡ true → head ts ≢ Some (Word (type_name to))

-- What begins an operand that begins so.
abbrev pub Begins : List Token → Start → Type 0
Begins ts start.Literal = (l : Lit) × (head ts ≡ Some (literal_token l))
Begins ts start.Name = (x : List ℕ) × (is_keyword x ≡ false) × (head ts ≡ Some (Word x))
Begins ts start.Bracket = head ts ≡ Some (Mark mark.OPENING_PARENTHESIS)
Begins ts (start.Sign op) = head ts ≡ Some (Mark (mark_of_sign op))
Begins ts (start.Conversion to) = (is_number_type to ≡ true) × (head ts ≡ Some (Word (type_name to)))
Begins ts start.Nothing = IsNoOperand ts
