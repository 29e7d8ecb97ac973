-- Each operator at its edges.
use Rattle.std.specs.Prelude.{◌≡◌, ℕ, refl, None, Some, true, false}
use Rattle.frp_tree.specs.declared.syntax.Ty.{Ty}
use Rattle.frp_tree.specs.declared.syntax.Ty.TheVariants.{U8, U16}
use Rattle.frp_tree.specs.declared.syntax.Ty.TheVariants as ty
use Rattle.frp_tree.specs.declared.syntax.Lit.TheVariants as lit
use Rattle.frp_tree.specs.declared.syntax.UnOp.TheVariants.{Com, Not}
use Rattle.frp_tree.specs.declared.syntax.BinOp.{BinOp}
use Rattle.frp_tree.specs.declared.syntax.BinOp.TheVariants.{Or, And, Eq, Ne, Lt, Le, Gt, Ge, BitOr, BitXor, BitAnd, Add, Sub, Mul, Div, Rem}
use Rattle.frp_tree.specs.declared.syntax.Side.TheVariants.{Left, Right}
use Rattle.frp_tree.specs.Tree.{Shift, Convert}
use Rattle.efrp_meaning.specs.Types.{type_of}
use Rattle.efrp_meaning.specs.Values.{modulus, literal_number, unary_value, binary_value, shift_value, if_value, convert_value}
use Rattle.efrp_meaning.proofs.Examples.Programs.{small, wide, counter}

-- An operator at two operands of a type.
abbrev at : Ty → BinOp → ℕ → ℕ → ℕ
at t op a b = binary_value op (modulus t) a b

pub sum_fits_8 : at U8 Add 254 1 ≡ 255
sum_fits_8 = refl

pub sum_wraps_8 : at U8 Add 255 1 ≡ 0
sum_wraps_8 = refl

pub sum_of_greatest_8 : at U8 Add 255 255 ≡ 254
sum_of_greatest_8 = refl

pub sum_carries_16 : at U16 Add 255 1 ≡ 256
sum_carries_16 = refl

pub sum_wraps_16 : at U16 Add 65535 1 ≡ 0
sum_wraps_16 = refl

pub difference_of_equals : at U8 Sub 7 7 ≡ 0
difference_of_equals = refl

pub difference_wraps_8 : at U8 Sub 0 1 ≡ 255
difference_wraps_8 = refl

pub difference_of_greatest_8 : at U8 Sub 0 255 ≡ 1
difference_of_greatest_8 = refl

pub difference_borrows_16 : at U16 Sub 256 1 ≡ 255
difference_borrows_16 = refl

pub difference_wraps_16 : at U16 Sub 0 1 ≡ 65535
difference_wraps_16 = refl

pub product_fits_8 : at U8 Mul 15 17 ≡ 255
product_fits_8 = refl

pub product_wraps_8 : at U8 Mul 16 16 ≡ 0
product_wraps_8 = refl

pub product_of_greatest_8 : at U8 Mul 255 255 ≡ 1
product_of_greatest_8 = refl

pub product_of_greatest_16 : at U16 Mul 65535 65535 ≡ 1
product_of_greatest_16 = refl

pub quotient_by_zero_8 : at U8 Div 200 0 ≡ 255
quotient_by_zero_8 = refl

pub remainder_by_zero_8 : at U8 Rem 200 0 ≡ 200
remainder_by_zero_8 = refl

pub quotient_rounds_down : at U8 Div 255 129 ≡ 1
quotient_rounds_down = refl

pub remainder_of_one_turn : at U8 Rem 255 129 ≡ 126
remainder_of_one_turn = refl

pub quotient_of_zero_by_zero : at U8 Div 0 0 ≡ 255
quotient_of_zero_by_zero = refl

pub remainder_of_zero_by_zero : at U8 Rem 0 0 ≡ 0
remainder_of_zero_by_zero = refl

pub quotient_by_zero_16 : at U16 Div 200 0 ≡ 65535
quotient_by_zero_16 = refl

pub remainder_by_zero_16 : at U16 Rem 60000 0 ≡ 60000
remainder_by_zero_16 = refl

pub quotient_of_equals : at U16 Div 60000 60000 ≡ 1
quotient_of_equals = refl

pub remainder_of_equals : at U16 Rem 60000 60000 ≡ 0
remainder_of_equals = refl

pub quotient_by_greater : at U8 Div 3 4 ≡ 0
quotient_by_greater = refl

pub remainder_by_greater : at U8 Rem 3 4 ≡ 3
remainder_by_greater = refl

pub complement_8 : unary_value Com (modulus U8) 0x0F ≡ 0xF0
complement_8 = refl

pub complement_of_zero_16 : unary_value Com (modulus U16) 0 ≡ 65535
complement_of_zero_16 = refl

pub complement_16 : unary_value Com (modulus U16) 0x00FF ≡ 0xFF00
complement_16 = refl

pub bits_and : at U8 BitAnd 0xCA 0xAC ≡ 0x88
bits_and = refl

pub bits_or : at U8 BitOr 0xCA 0xAC ≡ 0xEE
bits_or = refl

pub bits_xor : at U8 BitXor 0xCA 0xAC ≡ 0x66
bits_xor = refl

pub bits_and_16 : at U16 BitAnd 0xF00F 0x3CC3 ≡ 0x3003
bits_and_16 = refl

pub bits_or_16 : at U16 BitOr 0xF00F 0x3CC3 ≡ 0xFCCF
bits_or_16 = refl

pub bits_xor_16 : at U16 BitXor 0xF00F 0x3CC3 ≡ 0xCCCC
bits_xor_16 = refl

pub shift_by_none : shift_value Left 0 (modulus U8) 0x81 ≡ 0x81
shift_by_none = refl

pub shift_left_drops_8 : shift_value Left 1 (modulus U8) 0x81 ≡ 0x02
shift_left_drops_8 = refl

pub shift_left_most_8 : shift_value Left 7 (modulus U8) 0xFF ≡ 0x80
shift_left_most_8 = refl

pub shift_right_drops_8 : shift_value Right 1 (modulus U8) 0x81 ≡ 0x40
shift_right_drops_8 = refl

pub shift_right_most_8 : shift_value Right 7 (modulus U8) 0xFF ≡ 1
shift_right_most_8 = refl

pub shift_left_most_16 : shift_value Left 15 (modulus U16) 1 ≡ 32768
shift_left_most_16 = refl

pub shift_left_carries_16 : shift_value Left 4 (modulus U16) 0x0AB0 ≡ 0xAB00
shift_left_carries_16 = refl

pub shift_left_drops_16 : shift_value Left 8 (modulus U16) 0xABCD ≡ 0xCD00
shift_left_drops_16 = refl

pub shift_right_16 : shift_value Right 8 (modulus U16) 0xABCD ≡ 0x00AB
shift_right_16 = refl

-- An amount of 8 bits has no place in a u8, nor one of 16 in a u16.
pub shift_past_8 : type_of counter (Shift Left (small 1) 8) ≡ None
shift_past_8 = refl

pub shift_within_16 : type_of counter (Shift Left (wide 1) 15) ≡ Some U16
shift_within_16 = refl

pub shift_past_16 : type_of counter (Shift Left (wide 1) 16) ≡ None
shift_past_16 = refl

pub equal_at_equals : at U8 Eq 5 5 ≡ 1
equal_at_equals = refl

pub equal_at_others : at U16 Eq 0x0105 0x0005 ≡ 0
equal_at_others = refl

pub unequal_at_equals : at U8 Ne 5 5 ≡ 0
unequal_at_equals = refl

pub unequal_at_others : at U16 Ne 0x0105 0x0005 ≡ 1
unequal_at_others = refl

pub equal_bools : at ty.Bool Eq 0 0 ≡ 1
equal_bools = refl

pub below_at_equals : at U8 Lt 5 5 ≡ 0
below_at_equals = refl

pub below_at_less : at U8 Lt 4 5 ≡ 1
below_at_less = refl

pub below_at_greater : at U16 Lt 0x0100 0x00FF ≡ 0
below_at_greater = refl

pub at_most_at_equals : at U8 Le 5 5 ≡ 1
at_most_at_equals = refl

pub at_most_at_greater : at U8 Le 6 5 ≡ 0
at_most_at_greater = refl

pub above_at_equals : at U8 Gt 5 5 ≡ 0
above_at_equals = refl

pub above_at_greater : at U16 Gt 0x0100 0x00FF ≡ 1
above_at_greater = refl

pub at_least_at_equals : at U8 Ge 5 5 ≡ 1
at_least_at_equals = refl

pub at_least_at_less : at U8 Ge 4 5 ≡ 0
at_least_at_less = refl

-- Numbers have no sign: 255 is above 0.
pub no_sign : at U8 Gt 255 0 ≡ 1
no_sign = refl

pub not_true : unary_value Not (modulus ty.Bool) 1 ≡ 0
not_true = refl

pub not_false : unary_value Not (modulus ty.Bool) 0 ≡ 1
not_false = refl

pub both_hold : at ty.Bool And 1 1 ≡ 1
both_hold = refl

pub one_holds_of_both : at ty.Bool And 1 0 ≡ 0
one_holds_of_both = refl

pub other_holds_of_both : at ty.Bool And 0 1 ≡ 0
other_holds_of_both = refl

pub none_holds_of_both : at ty.Bool And 0 0 ≡ 0
none_holds_of_both = refl

pub one_holds : at ty.Bool Or 1 0 ≡ 1
one_holds = refl

pub other_holds : at ty.Bool Or 0 1 ≡ 1
other_holds = refl

pub two_hold : at ty.Bool Or 1 1 ≡ 1
two_hold = refl

pub none_holds : at ty.Bool Or 0 0 ≡ 0
none_holds = refl

pub if_true : if_value 1 7 9 ≡ 7
if_true = refl

pub if_false : if_value 0 7 9 ≡ 9
if_false = refl

pub low_byte : convert_value U8 0xABCD ≡ 0xCD
low_byte = refl

pub low_byte_of_byte : convert_value U8 255 ≡ 255
low_byte_of_byte = refl

pub byte_of_true : convert_value U8 1 ≡ 1
byte_of_true = refl

pub widened : convert_value U16 255 ≡ 255
widened = refl

pub widened_true : convert_value U16 1 ≡ 1
widened_true = refl

pub greatest_literal_8 : literal_number (lit.Plain 255) ≡ Some 255
greatest_literal_8 = refl

-- A number above 255 with no `w` has no value.
pub no_literal : literal_number (lit.Plain 256) ≡ None
no_literal = refl

pub greatest_literal_16 : literal_number (lit.Wide 65535) ≡ Some 65535
greatest_literal_16 = refl

pub true_literal : literal_number (lit.Truth true) ≡ Some 1
true_literal = refl

pub false_literal : literal_number (lit.Truth false) ≡ Some 0
false_literal = refl

-- A number above 65,535 has no value and no type, whatever its suffix.
pub no_literal_16 : literal_number (lit.Wide 65536) ≡ None
no_literal_16 = refl

pub type_of_literal_16 : type_of counter (wide 65535) ≡ Some U16
type_of_literal_16 = refl

pub no_type_of_literal_16 : type_of counter (wide 65536) ≡ None
no_type_of_literal_16 = refl

pub type_of_literal_8 : type_of counter (small 255) ≡ Some U8
type_of_literal_8 = refl

pub no_type_of_literal_8 : type_of counter (small 256) ≡ None
no_type_of_literal_8 = refl

-- No text spells a conversion to bool, and such a tree has no type. Nor has one that changes nothing.
pub no_conversion_to_bool : type_of counter (Convert ty.Bool (small 1)) ≡ None
no_conversion_to_bool = refl

pub no_conversion_of_a_u8 : type_of counter (Convert U8 (small 1)) ≡ None
no_conversion_of_a_u8 = refl

pub no_conversion_of_a_u16 : type_of counter (Convert U16 (wide 1)) ≡ None
no_conversion_of_a_u16 = refl
