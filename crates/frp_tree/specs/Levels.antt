-- How tightly the operators bind, and how each is written.
use Rattle.std.specs.Prelude.{ℕ, Bool, true, false}
use Rattle.frp_tree.specs.declared.syntax.UnOp.{UnOp}
use Rattle.frp_tree.specs.declared.syntax.UnOp.TheVariants.{Com, Not}
use Rattle.frp_tree.specs.declared.syntax.BinOp.{BinOp}
use Rattle.frp_tree.specs.declared.syntax.BinOp.TheVariants as binary
use Rattle.frp_tree.specs.declared.syntax.Side.{Side}
use Rattle.frp_tree.specs.declared.syntax.Side.TheVariants.{Left, Right}
use Rattle.frp_tree.specs.declared.levels.Level.{Level}
use Rattle.frp_tree.specs.declared.levels.Level.TheVariants.{Whole, Or, And, Comparison, BitOr, BitXor, BitAnd, Shift, Sum, Term, Operand}
use Rattle.frp_tree.specs.declared.marks.TheConstants as mark

-- The next tighter level; an operand's is its own.
abbrev pub tighter : Level → Level
tighter Whole = Or
tighter Or = And
tighter And = Comparison
tighter Comparison = BitOr
tighter BitOr = BitXor
tighter BitXor = BitAnd
tighter BitAnd = Shift
tighter Shift = Sum
tighter Sum = Term
tighter Term = Operand
tighter Operand = Operand

-- How tight a level is: the greater, the tighter.
abbrev pub height : Level → ℕ
height Whole = 0
height Or = 1
height And = 2
height Comparison = 3
height BitOr = 4
height BitXor = 5
height BitAnd = 6
height Shift = 7
height Sum = 8
height Term = 9
height Operand = 10

abbrev pub is_operand : Level → Bool
is_operand Operand = true
is_operand _ = false

-- Operators of one level stand in a row, grouped to the left; but comparisons don't.
abbrev pub repeats : Level → Bool
repeats Comparison = false
repeats _ = true

abbrev pub level_of : BinOp → Level
level_of binary.Or = Or
level_of binary.And = And
level_of binary.Eq = Comparison
level_of binary.Ne = Comparison
level_of binary.Lt = Comparison
level_of binary.Le = Comparison
level_of binary.Gt = Comparison
level_of binary.Ge = Comparison
level_of binary.BitOr = BitOr
level_of binary.BitXor = BitXor
level_of binary.BitAnd = BitAnd
level_of binary.Add = Sum
level_of binary.Sub = Sum
level_of binary.Mul = Term
level_of binary.Div = Term
level_of binary.Rem = Term

-- The number of an operator's mark.
abbrev pub mark_of : BinOp → ℕ
mark_of binary.Or = mark.OR
mark_of binary.And = mark.AND
mark_of binary.Eq = mark.EQUAL_TO
mark_of binary.Ne = mark.DIFFERENT_FROM
mark_of binary.Lt = mark.LESS
mark_of binary.Le = mark.LESS_OR_EQUAL
mark_of binary.Gt = mark.GREATER
mark_of binary.Ge = mark.GREATER_OR_EQUAL
mark_of binary.BitOr = mark.BIT_OR
mark_of binary.BitXor = mark.BIT_XOR
mark_of binary.BitAnd = mark.BIT_AND
mark_of binary.Add = mark.PLUS
mark_of binary.Sub = mark.MINUS
mark_of binary.Mul = mark.TIMES
mark_of binary.Div = mark.DIVIDED_BY
mark_of binary.Rem = mark.REMAINDER

abbrev pub mark_of_shift : Side → ℕ
mark_of_shift Left = mark.SHIFT_LEFT
mark_of_shift Right = mark.SHIFT_RIGHT

abbrev pub mark_of_sign : UnOp → ℕ
mark_of_sign Com = mark.BIT_NOT
mark_of_sign Not = mark.NOT
