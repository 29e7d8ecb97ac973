use Rattle.efrp_types.proofs.AnswerLaws.{told-first}
use Rattle.efrp_types.proofs.types.as_type.Goals as goal

pub returns-in_err-found : goal.returns-in_err-found
returns-in_err-found c = told-first _ _ _ c.from_residual.result c.from_residual.ensures.1 c.in_err-found.ensures
