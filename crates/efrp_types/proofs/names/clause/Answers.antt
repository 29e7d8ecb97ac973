use Rattle.efrp_types.proofs.AnswerLaws.{told-first, rest-tells}
use Rattle.efrp_types.proofs.names.clause.Goals as goal

pub returns-in_err-clause_event : goal.returns-in_err-clause_event
returns-in_err-clause_event c = told-first _ _ _ c.from_residual.result c.from_residual.ensures.1 c.in_err-clause_event.ensures

pub returns : goal.returns
returns c = rest-tells _ _ _ c.in_ok-clause_event.ensures c.uses.ensures
