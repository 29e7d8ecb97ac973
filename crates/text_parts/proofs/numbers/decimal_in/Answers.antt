use Rattle.std.proofs.Common.{sym}
use Rattle.text_parts.proofs.NumberLaws.{digits_hex}
use Rattle.text_parts.proofs.numbers.decimal_in.Goals as goal

pub number_of-requires-clause-digits : goal.number_of-requires-clause-digits
number_of-requires-clause-digits c = digits_hex c.args.field.now (sym c.if-not-are_digits.ensures)
