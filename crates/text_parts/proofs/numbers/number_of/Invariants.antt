use Rattle.std.proofs.Common.{◌≡◌, drop}
use Rattle.text_parts.specs.Numbers.{value_after}
use Rattle.text_parts.proofs.numbers.number_of.Given as goal

-- The digits that are left complete the number.
abbrev pub invariant-loop-digit : goal.invariant-loop-digit
invariant-loop-digit l = value_after l.base l.value (drop l.digit-index l.digits) ≡ value_after l.base 0 l.digits
