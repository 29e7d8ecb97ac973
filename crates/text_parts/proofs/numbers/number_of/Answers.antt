use Rattle.std.proofs.Common.{arith}
use Rattle.text_parts.proofs.NumberLaws.{value_past}
use Rattle.text_parts.proofs.numbers.number_of.Goals as goal

pub returns-in_err-checked_mul : goal.returns-in_err-checked_mul
returns-in_err-checked_mul c =
    let past = c.in_err-checked_mul.ensures in
    rw c.from_residual.ensures (value_past _ _ _ _ _ _ c.requires.base c.loop-digit-test.true c.loop-digit.invariant (omega arith))

pub returns-in_err-value : goal.returns-in_err-value
returns-in_err-value c =
    let past = c.in_err-value.ensures in
    let product = c.in_ok-checked_mul.ensures in
    rw c.from_residual-in_err-value.ensures (value_past _ _ _ _ _ _ c.requires.base c.loop-digit-test.true c.loop-digit.invariant (omega (arith, c.digit_value.ensures)))
