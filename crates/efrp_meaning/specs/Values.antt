-- The values of literals, operators and tables, as numbers.
use Rattle.std.specs.Prelude.{ℕ, ◌+◌, ◌-◌, ◌*◌, ◌/◌, ◌%◌, ◌^◌, Bool, true, false, not, ◌&&◌, ◌||◌, ◌==◌, nat_lt, nat_le, bit_and, bit_or, bit_xor, if◌then◌else◌, List, length, slice_get, Option, None, option_map, option_and_then}
use Rattle.std.specs.List.{last_or}
use Rattle.frp_tree.specs.declared.syntax.Ty.{Ty}
use Rattle.frp_tree.specs.declared.syntax.Ty.TheVariants as ty
use Rattle.frp_tree.specs.declared.syntax.Lit.{Lit}
use Rattle.frp_tree.specs.declared.syntax.Value.{Value}
use Rattle.frp_tree.specs.declared.syntax.Value.TheVariants as value
use Rattle.frp_tree.specs.declared.syntax.UnOp.{UnOp}
use Rattle.frp_tree.specs.declared.syntax.UnOp.TheVariants.{Com, Not}
use Rattle.frp_tree.specs.declared.syntax.BinOp.{BinOp}
use Rattle.frp_tree.specs.declared.syntax.BinOp.TheVariants.{Or, And, Eq, Ne, Lt, Le, Gt, Ge, BitOr, BitXor, BitAnd, Add, Sub, Mul, Div, Rem}
use Rattle.frp_tree.specs.declared.syntax.Side.{Side}
use Rattle.frp_tree.specs.declared.syntax.Side.TheVariants.{Left, Right}
use Rattle.frp_tree.specs.Literals.{lit_value_of}

-- Values are numbers: those of a type are the numbers below this one.
abbrev pub modulus : Ty → ℕ
modulus ty.Bool = 2
modulus ty.U8 = 256
modulus ty.U16 = 65536

-- A bool is 1 where it holds, and else 0.
abbrev pub truth_number : Bool → ℕ
truth_number true = 1
truth_number false = 0

abbrev pub holds : ℕ → Bool
holds a = a == 1

abbrev pub number_of : Value → ℕ
number_of (value.Bool b) = truth_number b
number_of (value.U8 n) = n
number_of (value.U16 n) = n

-- The number of a literal, where it has a value.
abbrev pub literal_number : Lit → Option ℕ
literal_number literal = option_map number_of (lit_value_of literal)

-- `~` and `!` of an operand whose type has m values.
abbrev pub unary_value : UnOp → ℕ → ℕ → ℕ
unary_value Com m a = m - 1 - a
unary_value Not m a = truth_number (not (holds a))

-- An operator of two operands whose type has m values. By 0, `/` gives the greatest value and `%` its left operand.
abbrev pub binary_value : BinOp → ℕ → ℕ → ℕ → ℕ
binary_value Or m a b = truth_number (holds a || holds b)
binary_value And m a b = truth_number (holds a && holds b)
binary_value Eq m a b = truth_number (a == b)
binary_value Ne m a b = truth_number (not (a == b))
binary_value Lt m a b = truth_number (nat_lt a b)
binary_value Le m a b = truth_number (nat_le a b)
binary_value Gt m a b = truth_number (nat_lt b a)
binary_value Ge m a b = truth_number (nat_le b a)
binary_value BitOr m a b = bit_or a b
binary_value BitXor m a b = bit_xor a b
binary_value BitAnd m a b = bit_and a b
binary_value Add m a b = (a + b) % m
binary_value Sub m a b = (a + m - b) % m
binary_value Mul m a b = (a * b) % m
binary_value Div m a b = if b == 0 then m - 1 else a / b
binary_value Rem m a b = if b == 0 then a else a % b

-- A shift by this amount of bits, of an operand whose type has m values. Zeros come in.
abbrev pub shift_value : Side → ℕ → ℕ → ℕ → ℕ
shift_value Left amount m a = (a * 2 ^ amount) % m
shift_value Right amount m a = a / 2 ^ amount

-- `if c then a else b`
abbrev pub if_value : ℕ → ℕ → ℕ → ℕ
if_value c a b = if holds c then a else b

-- `u8(a)` is the low byte, and `u16(a)` the number itself. Nothing else is a conversion.
abbrev pub convert_value : Ty → ℕ → ℕ
convert_value ty.U8 a = a % 256
convert_value _ a = a

-- The entry with this number, counted from 0, or the last one where there are not as many.
abbrev pub entry_at : {A : Type 0} → List A → ℕ → Option A
entry_at entries i = if nat_lt i (length entries) then slice_get entries i else last_or None entries

-- Its number.
abbrev pub number_at : List Lit → ℕ → Option ℕ
number_at entries i = option_and_then literal_number (entry_at entries i)
