-- Which operators and shifts an operation may have.
use Rattle.std.specs.Prelude.{ℕ, ◌≤◌, Bool, true, false, IsTrue, if◌then◌else◌}
use Rattle.frp_tree.specs.declared.syntax.BinOp.{BinOp}
use Rattle.frp_tree.specs.declared.syntax.BinOp.TheVariants.{Or, And, Eq, Ne, Lt, Le, Gt, Ge, BitOr, BitXor, BitAnd, Add, Sub, Mul, Div, Rem}
use Rattle.byte_ops.specs.declared.operations.Op.{Op}
use Rattle.byte_ops.specs.declared.operations.Op.TheVariants.{Bits, Sum, Compare, Logic, Shift, Product}

abbrev pub is_bits : BinOp → Bool
is_bits BitOr = true
is_bits BitXor = true
is_bits BitAnd = true
is_bits _ = false

abbrev pub is_sum : BinOp → Bool
is_sum Add = true
is_sum Sub = true
is_sum _ = false

abbrev pub is_compare : BinOp → Bool
is_compare Eq = true
is_compare Ne = true
is_compare Lt = true
is_compare Le = true
is_compare Gt = true
is_compare Ge = true
is_compare _ = false

abbrev pub is_logic : BinOp → Bool
is_logic And = true
is_logic Or = true
is_logic _ = false

abbrev pub is_product : BinOp → Bool
is_product Mul = true
is_product Div = true
is_product Rem = true
is_product _ = false

-- The most bits by which a number may be shifted.
abbrev pub most_shifted : Bool → ℕ
most_shifted wide = if wide then 15 else 7

-- The operator of an operation is one of its kind, and it shifts by no more than that.
abbrev pub IsOp : Op → Type 0
IsOp (Bits f to a b) = IsTrue (is_bits f)
IsOp (Sum f wide to a b) = IsTrue (is_sum f)
IsOp (Compare f wide to a b) = IsTrue (is_compare f)
IsOp (Logic f to a b) = IsTrue (is_logic f)
IsOp (Shift side wide n to a) = n ≤ most_shifted wide
IsOp (Product f wide to a b) = IsTrue (is_product f)
IsOp _ = Unit
