-- The most words of each template, counted by hand: one for each act, and two for each name in another bank.
use Rattle.std.proofs.Common.{◌≡◌, true, false, None, refl}
use Rattle.frp_tree.specs.declared.syntax.BinOp.TheVariants.{Add, BitXor, Eq, Gt, Lt, Sub}
use Rattle.frp_tree.specs.declared.syntax.Side.TheVariants.{Left, Right}
use Rattle.code_acts.specs.Codes.{words}
use Rattle.op_templates.specs.Moves.{set_template, copy_template, com_template, not_template, bits_template}
use Rattle.op_templates.specs.Sums.{sum_template}
use Rattle.op_templates.specs.Comparisons.{compare_template}
use Rattle.op_templates.specs.Choices.{choose_template}
use Rattle.op_templates.specs.Shifts.{shift_template}

set : words None (set_template 7) ≡ 4
set = refl

copy : words None copy_template ≡ 6
copy = refl

complement : words None com_template ≡ 6
complement = refl

negation : words None not_template ≡ 7
negation = refl

bits : words None (bits_template BitXor) ≡ 9
bits = refl

sum : words None (sum_template Add false) ≡ 9
sum = refl

wide_sum : words None (sum_template Add true) ≡ 20
wide_sum = refl

wide_difference : words None (sum_template Sub true) ≡ 20
wide_difference = refl

comparison : words None (compare_template Gt false) ≡ 12
comparison = refl

wide_comparison : words None (compare_template Lt true) ≡ 22
wide_comparison = refl

wide_equality : words None (compare_template Eq true) ≡ 20
wide_equality = refl

choice : words None (choose_template false) ≡ 14
choice = refl

wide_choice : words None (choose_template true) ≡ 27
wide_choice = refl

shift_by_three : words None (shift_template Left false 3) ≡ 10
shift_by_three = refl

shift_by_seven : words None (shift_template Right false 7) ≡ 7
shift_by_seven = refl

wide_shift_by_one : words None (shift_template Left true 1) ≡ 13
wide_shift_by_one = refl

wide_shift_by_four : words None (shift_template Left true 4) ≡ 17
wide_shift_by_four = refl

wide_shift_by_five : words None (shift_template Right true 5) ≡ 21
wide_shift_by_five = refl

wide_shift_by_seven : words None (shift_template Right true 7) ≡ 13
wide_shift_by_seven = refl

wide_shift_by_eight : words None (shift_template Left true 8) ≡ 9
wide_shift_by_eight = refl
