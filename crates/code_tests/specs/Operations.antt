-- Tests by which an operation is one on some of so many cells: they compute for literals.
use Rattle.std.specs.Prelude.{ℕ, Bool, true, false, not, nat_lt, nat_le, ◌==◌, ◌&&◌, List, [], ◌∷◌}
use Rattle.std.specs.List.{list_all}
use Rattle.byte_ops.specs.declared.operations.Op.{Op}
use Rattle.byte_ops.specs.declared.operations.Op.TheVariants.{Set, Bits, Sum, Compare, Logic, Shift, Product}
use Rattle.byte_ops.specs.Kinds.{is_bits, is_compare, is_logic, is_product, is_sum, most_shifted}
use Rattle.byte_ops.specs.Meaning.{read_by, written_by}

abbrev pub is_op : Op → Bool
is_op (Bits f to a b) = is_bits f
is_op (Sum f wide to a b) = is_sum f
is_op (Compare f wide to a b) = is_compare f
is_op (Logic f to a b) = is_logic f
is_op (Shift side wide n to a) = nat_le n (most_shifted wide)
is_op (Product f wide to a b) = is_product f
is_op _ = true

abbrev pub has_byte : Op → Bool
has_byte (Set to k) = nat_lt k 256
has_byte _ = true

abbrev pub is_none_of : List ℕ → ℕ → Bool
is_none_of cells cell = list_all (λ other. not (cell == other)) cells

abbrev pub all_differ : List ℕ → Bool
all_differ [] = true
all_differ (cell ∷ more) = is_none_of more cell && all_differ more

abbrev pub is_op_on : ℕ → Op → Bool
is_op_on count op =
    is_op op
    && (has_byte op
    && (list_all (λ cell. nat_lt cell count) (read_by op)
    && (list_all (λ cell. nat_lt cell count) (written_by op) && (list_all (is_none_of (read_by op)) (written_by op) && all_differ (written_by op)))))
