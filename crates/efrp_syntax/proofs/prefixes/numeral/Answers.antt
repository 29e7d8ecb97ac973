use Rattle.std.proofs.Common.{refl}
use Rattle.efrp_syntax.proofs.FirstTokenFacts.{wide_taken, num_taken, number_big}
use Rattle.efrp_syntax.proofs.prefixes.numeral.Goals as goal

pub returns-in-None-default : goal.returns-in-None-default
returns-in-None-default c =
    (refl, number_big c.args.text.now c.number-value.result.1.now _ c.in-None-default.is-0 c.number-value.ensures c.requires.no_comment)

pub returns-in-Some-Some : goal.returns-in-Some-Some
returns-in-Some-Some c =
    wide_taken c.args.text.now c.number-value.result.1.now c.in-Some-Some.behind.now _ c.in-Some-Some.value c.in-Some-Some.is-0 c.number-value.ensures c.requires.no_comment c.in-Some-Some.ensures

pub returns-in-Some-None : goal.returns-in-Some-None
returns-in-Some-None c =
    num_taken c.args.text.now c.number-value.result.1.now _ c.in-Some-None.value c.in-Some-None.is-0 c.number-value.ensures c.requires.no_comment c.in-Some-None.ensures
