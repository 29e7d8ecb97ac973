-- Each row of the weights: of a node whose operands weigh nothing else than their own literals or names.
use Rattle.std.specs.Prelude.{◌≡◌, ℕ, ◌+◌, [], ◌∷◌, codes, refl, true}
use Rattle.frp_tree.specs.declared.syntax.Ty.TheVariants.{U8, U16}
use Rattle.frp_tree.specs.declared.syntax.Ty.TheVariants as ty
use Rattle.frp_tree.specs.declared.syntax.Lit.TheVariants as lit
use Rattle.frp_tree.specs.declared.syntax.UnOp.TheVariants.{Com, Not}
use Rattle.frp_tree.specs.declared.syntax.BinOp.{BinOp}
use Rattle.frp_tree.specs.declared.syntax.BinOp.TheVariants.{Or, And, Eq, Ne, Lt, Le, Gt, Ge, BitOr, BitXor, BitAnd, Add, Sub, Mul, Div, Rem}
use Rattle.frp_tree.specs.declared.syntax.Side.TheVariants.{Left, Right}
use Rattle.frp_tree.specs.Tree.{Tree, Const, Name, Unary, Binary, Shift, If, Convert, Look, ProgramTree}
use Rattle.efrp_meaning.specs.Bounds.{weight, result_bytes, state_bytes}
use Rattle.efrp_meaning.proofs.Examples.Programs.{small, wide, plain, reactive, table, on_go}

-- A name and a table of each type.
abbrev typed : ProgramTree
typed = on_go (
    plain (codes "f") ty.Bool (Const (lit.Truth true)) ∷ plain (codes "b") U8 (small 1) ∷ plain (codes "w") U16 (wide 1)
    ∷ table (codes "flags") ty.Bool (lit.Truth true ∷ []) ∷ table (codes "bytes") U8 (lit.Plain 1 ∷ []) ∷ table (codes "words") U16 (lit.Wide 1 ∷ []) ∷ [])

abbrev flag : Tree
flag = Const (lit.Truth true)

-- Literals and names.
pub literal_8 : weight typed (small 1) ≡ 4
literal_8 = refl

pub literal_16 : weight typed (wide 1) ≡ 8
literal_16 = refl

pub literal_bool : weight typed flag ≡ 4
literal_bool = refl

pub name_8 : weight typed (Name (codes "b")) ≡ 6
name_8 = refl

pub name_16 : weight typed (Name (codes "w")) ≡ 12
name_16 = refl

pub name_bool : weight typed (Name (codes "f")) ≡ 6
name_bool = refl

-- An operator of two literals of 8 bits, which weigh 8 more, of 16, which weigh 16 more, and of two bools.
abbrev at_8 : BinOp → ℕ
at_8 op = weight typed (Binary op (small 1) (small 2))

abbrev at_16 : BinOp → ℕ
at_16 op = weight typed (Binary op (wide 1) (wide 2))

abbrev at_bool : BinOp → ℕ
at_bool op = weight typed (Binary op flag flag)

pub or_bool : at_bool Or ≡ 16 + 8
or_bool = refl

pub and_bool : at_bool And ≡ 16 + 8
and_bool = refl

pub eq_8 : at_8 Eq ≡ 24 + 8
eq_8 = refl

pub eq_16 : at_16 Eq ≡ 64 + 16
eq_16 = refl

pub eq_bool : at_bool Eq ≡ 24 + 8
eq_bool = refl

pub ne_8 : at_8 Ne ≡ 24 + 8
ne_8 = refl

pub ne_16 : at_16 Ne ≡ 64 + 16
ne_16 = refl

pub ne_bool : at_bool Ne ≡ 24 + 8
ne_bool = refl

pub lt_8 : at_8 Lt ≡ 24 + 8
lt_8 = refl

pub lt_16 : at_16 Lt ≡ 64 + 16
lt_16 = refl

pub le_8 : at_8 Le ≡ 24 + 8
le_8 = refl

pub le_16 : at_16 Le ≡ 64 + 16
le_16 = refl

pub gt_8 : at_8 Gt ≡ 24 + 8
gt_8 = refl

pub gt_16 : at_16 Gt ≡ 64 + 16
gt_16 = refl

pub ge_8 : at_8 Ge ≡ 24 + 8
ge_8 = refl

pub ge_16 : at_16 Ge ≡ 64 + 16
ge_16 = refl

pub bit_or_8 : at_8 BitOr ≡ 12 + 8
bit_or_8 = refl

pub bit_or_16 : at_16 BitOr ≡ 24 + 16
bit_or_16 = refl

pub bit_xor_8 : at_8 BitXor ≡ 12 + 8
bit_xor_8 = refl

pub bit_xor_16 : at_16 BitXor ≡ 24 + 16
bit_xor_16 = refl

pub bit_and_8 : at_8 BitAnd ≡ 12 + 8
bit_and_8 = refl

pub bit_and_16 : at_16 BitAnd ≡ 24 + 16
bit_and_16 = refl

pub add_8 : at_8 Add ≡ 16 + 8
add_8 = refl

pub add_16 : at_16 Add ≡ 48 + 16
add_16 = refl

pub sub_8 : at_8 Sub ≡ 16 + 8
sub_8 = refl

pub sub_16 : at_16 Sub ≡ 48 + 16
sub_16 = refl

pub mul_8 : at_8 Mul ≡ 64 + 8
mul_8 = refl

pub mul_16 : at_16 Mul ≡ 320 + 16
mul_16 = refl

pub div_8 : at_8 Div ≡ 192 + 8
div_8 = refl

pub div_16 : at_16 Div ≡ 800 + 16
div_16 = refl

pub rem_8 : at_8 Rem ≡ 192 + 8
rem_8 = refl

pub rem_16 : at_16 Rem ≡ 800 + 16
rem_16 = refl

-- Operators of one operand, shifts, conversions, choices and look-ups.
pub com_8 : weight typed (Unary Com (small 1)) ≡ 8 + 4
com_8 = refl

pub com_16 : weight typed (Unary Com (wide 1)) ≡ 16 + 8
com_16 = refl

pub not_bool : weight typed (Unary Not flag) ≡ 16 + 4
not_bool = refl

pub shift_left_8 : weight typed (Shift Left (small 1) 7) ≡ 32 + 4
shift_left_8 = refl

pub shift_left_16 : weight typed (Shift Left (wide 1) 15) ≡ 80 + 8
shift_left_16 = refl

pub shift_right_8 : weight typed (Shift Right (small 1) 0) ≡ 32 + 4
shift_right_8 = refl

pub shift_right_16 : weight typed (Shift Right (wide 1) 0) ≡ 80 + 8
shift_right_16 = refl

-- A choice weighs by its result, and its condition counts as it is.
pub if_8 : weight typed (If flag (small 1) (small 2)) ≡ 24 + 12
if_8 = refl

pub if_16 : weight typed (If flag (wide 1) (wide 2)) ≡ 40 + 20
if_16 = refl

pub if_bool : weight typed (If flag flag flag) ≡ 24 + 12
if_bool = refl

pub convert_to_8 : weight typed (Convert U8 (wide 1)) ≡ 12 + 8
convert_to_8 = refl

pub convert_to_16 : weight typed (Convert U16 (small 1)) ≡ 12 + 4
convert_to_16 = refl

pub look_8 : weight typed (Look (codes "bytes") (small 1)) ≡ 40 + 4
look_8 = refl

pub look_16 : weight typed (Look (codes "words") (small 1)) ≡ 80 + 4
look_16 = refl

pub look_bool : weight typed (Look (codes "flags") (small 1)) ≡ 40 + 4
look_bool = refl

-- The bytes of results: two for each node of type u16, one for each other.
pub bytes_of_literals : result_bytes typed (small 1) + result_bytes typed (wide 1) + result_bytes typed flag ≡ 1 + 2 + 1
bytes_of_literals = refl

pub bytes_of_names : result_bytes typed (Name (codes "b")) + result_bytes typed (Name (codes "w")) + result_bytes typed (Name (codes "f")) ≡ 1 + 2 + 1
bytes_of_names = refl

pub bytes_of_unary : result_bytes typed (Unary Com (wide 1)) ≡ 2 + 2
bytes_of_unary = refl

pub bytes_of_sum : result_bytes typed (Binary Add (wide 1) (wide 2)) ≡ 2 + 4
bytes_of_sum = refl

pub bytes_of_comparison : result_bytes typed (Binary Lt (wide 1) (wide 2)) ≡ 1 + 4
bytes_of_comparison = refl

pub bytes_of_shift : result_bytes typed (Shift Left (wide 1) 1) ≡ 2 + 2
bytes_of_shift = refl

pub bytes_of_if : result_bytes typed (If flag (wide 1) (wide 2)) ≡ 2 + 5
bytes_of_if = refl

pub bytes_of_conversion_to_8 : result_bytes typed (Convert U8 (wide 1)) ≡ 1 + 2
bytes_of_conversion_to_8 = refl

pub bytes_of_conversion_to_16 : result_bytes typed (Convert U16 (small 1)) ≡ 2 + 1
bytes_of_conversion_to_16 = refl

pub bytes_of_look_8 : result_bytes typed (Look (codes "bytes") (small 1)) ≡ 1 + 1
bytes_of_look_8 = refl

pub bytes_of_look_16 : result_bytes typed (Look (codes "words") (small 1)) ≡ 2 + 1
bytes_of_look_16 = refl

-- The bytes of states: one for a bool and a u8, two for a u16.
abbrev states : ProgramTree
states = on_go (reactive (codes "f") ty.Bool (lit.Truth true) [] ∷ reactive (codes "b") U8 (lit.Plain 1) [] ∷ reactive (codes "w") U16 (lit.Wide 1) [] ∷ [])

pub bytes_of_states : state_bytes states ≡ 1 + (1 + 2)
bytes_of_states = refl
