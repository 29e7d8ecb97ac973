use Rattle.efrp_types.proofs.AnswerLaws.{told-first, rest-tells}
use Rattle.efrp_types.proofs.nodes.truths.Goals as goal

pub returns-in_err-unlike : goal.returns-in_err-unlike
returns-in_err-unlike c = told-first _ _ _ c.from_residual.result c.from_residual.ensures.1 c.in_err-unlike.ensures

pub returns : goal.returns
returns c = rest-tells _ _ _ c.in_ok-unlike.ensures c.unlike-2.ensures
