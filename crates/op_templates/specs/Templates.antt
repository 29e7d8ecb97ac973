-- The template of each operation but products, the names that an operation has in it, and the words that it may take.
use Rattle.std.specs.Prelude.{ℕ, Bool, true, false, List, [], if◌then◌else◌}
use Rattle.byte_ops.specs.declared.operations.Op.{Op}
use Rattle.byte_ops.specs.declared.operations.Op.TheVariants.{Set, Copy, Com, Not, Bits, Sum, Compare, Logic, Choose, Shift, Product}
use Rattle.byte_ops.specs.declared.operations.Pair.{Pair}
use Rattle.code_acts.specs.declared.acts.Act.{Act}
use Rattle.op_templates.specs.Moves.{set_template, copy_template, com_template, not_template, bits_template}
use Rattle.op_templates.specs.Sums.{sum_template}
use Rattle.op_templates.specs.Comparisons.{compare_template}
use Rattle.op_templates.specs.Choices.{choose_template}
use Rattle.op_templates.specs.Shifts.{shift_template}

-- Products have no template here.
abbrev pub has_template : Op → Bool
has_template (Product f wide to a b) = false
has_template _ = true

abbrev pub template_of : Op → List Act
template_of (Set to k) = set_template k
template_of (Copy to a) = copy_template
template_of (Com to a) = com_template
template_of (Not to a) = not_template
template_of (Bits f to a b) = bits_template f
template_of (Sum f wide to a b) = sum_template f wide
template_of (Compare f wide to a b) = compare_template f wide
template_of (Logic f to a b) = bits_template f
template_of (Choose wide to c a b) = choose_template wide
template_of (Shift side wide n to a) = shift_template side wide n
template_of (Product f wide to a b) = []

-- The operation with the numbers of names in place of its cells: its result is 12 and 13, A is 14 and 15, B 16 and 17, C 18.
abbrev pub result_pair : Pair
result_pair = record { low = 12; high = 13 }

abbrev pub a_pair : Pair
a_pair = record { low = 14; high = 15 }

abbrev pub b_pair : Pair
b_pair = record { low = 16; high = 17 }

abbrev pub named : Op → Op
named (Set to k) = Set 12 k
named (Copy to a) = Copy 12 14
named (Com to a) = Com 12 14
named (Not to a) = Not 12 14
named (Bits f to a b) = Bits f 12 14 16
named (Sum f wide to a b) = Sum f wide result_pair a_pair b_pair
named (Compare f wide to a b) = Compare f wide 12 a_pair b_pair
named (Logic f to a b) = Logic f 12 14 16
named (Choose wide to c a b) = Choose wide result_pair 18 a_pair b_pair
named (Shift side wide n to a) = Shift side wide n result_pair a_pair
named (Product f wide to a b) = Product f wide result_pair a_pair b_pair

-- The most words of an operation's template, wherever the bytes lie.
abbrev pub most_words : Op → ℕ
most_words (Set to k) = 4
most_words (Copy to a) = 6
most_words (Com to a) = 6
most_words (Not to a) = 7
most_words (Bits f to a b) = 9
most_words (Sum f wide to a b) = if wide then 20 else 9
most_words (Compare f wide to a b) = if wide then 22 else 12
most_words (Logic f to a b) = 9
most_words (Choose wide to c a b) = if wide then 27 else 14
most_words (Shift side wide n to a) = if wide then 21 else 10
most_words (Product f wide to a b) = 0
