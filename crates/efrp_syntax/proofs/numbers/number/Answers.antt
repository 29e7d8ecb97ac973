use Rattle.efrp_syntax.proofs.FirstNumberFacts.{first_hexadecimal, first_decimal}
use Rattle.text_parts.proofs.NumberLaws.{digits_hex}
use Rattle.efrp_syntax.proofs.numbers.number.Goals as goal

pub value-requires-in-None-clause-digits : goal.value-requires-in-None-clause-digits
value-requires-in-None-clause-digits c = digits_hex c.run-in-None.result.0.now c.run-in-None.ensures.all

pub returns-in-Some : goal.returns-in-Some
returns-in-Some c =
    let found = c.in-Some.ensures in
    first_hexadecimal c.args.text.now c.in-Some.behind.now c.run.result.0.now c.run.result.1.now c.value.result found.0 found.1 c.run.ensures c.value.ensures

pub returns-in-None : goal.returns-in-None
returns-in-None c =
    first_decimal c.args.text.now c.run-in-None.result.0.now c.run-in-None.result.1.now c.value-in-None.result c.requires c.in-None.ensures c.run-in-None.ensures c.value-in-None.ensures
