use Rattle.efrp_types.proofs.AnswerLaws.{told-first, rest-tells}
use Rattle.efrp_types.proofs.nodes.numbers.Goals as goal

pub returns-in_err-number : goal.returns-in_err-number
returns-in_err-number c = told-first _ _ _ c.from_residual.result c.from_residual.ensures.1 c.in_err-number.ensures

pub returns : goal.returns
returns c = rest-tells _ _ _ c.in_ok-number.ensures c.unlike.ensures
