-- What operations mean, computed at the edges of each kind.
use Rattle.std.specs.Prelude.{◌≡◌, true, false, [], ◌∷◌, refl}
use Rattle.frp_tree.specs.declared.syntax.BinOp.TheVariants.{And, Lt, BitXor, Add, Sub, Mul, Div, Rem}
use Rattle.frp_tree.specs.declared.syntax.Side.TheVariants.{Left, Right}
use Rattle.byte_ops.specs.declared.operations.Pair.{Pair}
use Rattle.byte_ops.specs.declared.operations.Op.TheVariants.{Com, Not, Bits, Sum, Compare, Logic, Choose, Shift, Product}
use Rattle.byte_ops.specs.Cells.{cell_of}
use Rattle.byte_ops.specs.Meaning.{read_by, result_in, value_of, written_by}

-- Pairs of the cells 0 and 1, 2 and 3, 4 and 5.
abbrev first : Pair
first = record { low = 0; high = 1 }

abbrev second : Pair
second = record { low = 2; high = 3 }

abbrev third : Pair
third = record { low = 4; high = 5 }

-- Of 8 bits: the cell 0 at the cell 2. The high cells count for nothing.
pub quotient_by_zero : value_of (Product Div false third first second) (cell_of (200 ∷ 9 ∷ 0 ∷ 9 ∷ [])) ≡ 255
quotient_by_zero = refl

pub rest_by_zero : value_of (Product Rem false third first second) (cell_of (200 ∷ 9 ∷ 0 ∷ 9 ∷ [])) ≡ 200
rest_by_zero = refl

pub quotient_8 : value_of (Product Div false third first second) (cell_of (255 ∷ 9 ∷ 129 ∷ 9 ∷ [])) ≡ 1
quotient_8 = refl

pub rest_8 : value_of (Product Rem false third first second) (cell_of (255 ∷ 9 ∷ 129 ∷ 9 ∷ [])) ≡ 126
rest_8 = refl

pub sum_wraps_8 : value_of (Sum Add false third first second) (cell_of (255 ∷ 9 ∷ 1 ∷ 9 ∷ [])) ≡ 0
sum_wraps_8 = refl

pub bits_turned : value_of (Com 4 0) (cell_of (15 ∷ [])) ≡ 240
bits_turned = refl

pub not_of_one : value_of (Not 4 0) (cell_of (1 ∷ [])) ≡ 0
not_of_one = refl

pub exclusive : value_of (Bits BitXor 4 0 1) (cell_of (60 ∷ 15 ∷ [])) ≡ 51
exclusive = refl

pub both_hold : value_of (Logic And 4 0 1) (cell_of (1 ∷ 0 ∷ [])) ≡ 0
both_hold = refl

-- Of 16 bits: low byte first.
pub product_of_greatest : value_of (Product Mul true third first second) (cell_of (255 ∷ 255 ∷ 255 ∷ 255 ∷ [])) ≡ 1
product_of_greatest = refl

pub quotient_by_zero_16 : value_of (Product Div true third first second) (cell_of (200 ∷ 0 ∷ 0 ∷ 0 ∷ [])) ≡ 65535
quotient_by_zero_16 = refl

pub sum_carries : value_of (Sum Add true third first second) (cell_of (255 ∷ 0 ∷ 1 ∷ 0 ∷ [])) ≡ 256
sum_carries = refl

pub difference_borrows : value_of (Sum Sub true third first second) (cell_of (0 ∷ 1 ∷ 1 ∷ 0 ∷ [])) ≡ 255
difference_borrows = refl

pub high_bytes_decide : value_of (Compare Lt true 4 first second) (cell_of (255 ∷ 0 ∷ 0 ∷ 1 ∷ [])) ≡ 1
high_bytes_decide = refl

pub shifted_by_15 : value_of (Shift Left true 15 third first) (cell_of (1 ∷ 0 ∷ [])) ≡ 32768
shifted_by_15 = refl

pub shifted_by_7 : value_of (Shift Left false 7 third first) (cell_of (3 ∷ 9 ∷ [])) ≡ 128
shifted_by_7 = refl

pub shifted_right : value_of (Shift Right true 8 third first) (cell_of (52 ∷ 18 ∷ [])) ≡ 18
shifted_right = refl

pub chosen_first : value_of (Choose true third 6 first second) (cell_of (1 ∷ 2 ∷ 3 ∷ 4 ∷ 0 ∷ 0 ∷ 1 ∷ [])) ≡ 513
chosen_first = refl

pub chosen_second : value_of (Choose true third 6 first second) (cell_of (1 ∷ 2 ∷ 3 ∷ 4 ∷ 0 ∷ 0 ∷ 0 ∷ [])) ≡ 1027
chosen_second = refl

-- Which cells are read and written.
pub reads_both : read_by (Sum Add true third first second) ≡ 0 ∷ 1 ∷ 2 ∷ 3 ∷ []
reads_both = refl

pub reads_low : read_by (Choose false third 6 first second) ≡ 6 ∷ 0 ∷ 2 ∷ []
reads_low = refl

pub writes_both : written_by (Shift Left true 1 third first) ≡ 4 ∷ 5 ∷ []
writes_both = refl

pub writes_one : written_by (Compare Lt true 4 first second) ≡ 4 ∷ []
writes_one = refl

pub result_low_first : result_in (Sum Add true third first second) (cell_of (0 ∷ 0 ∷ 0 ∷ 0 ∷ 0x34 ∷ 0x12 ∷ [])) ≡ 0x1234
result_low_first = refl
