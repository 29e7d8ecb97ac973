use Rattle.efrp_types.specs.TypeFaults.{unlike}
use Rattle.efrp_types.proofs.AnswerLaws.{told-first, as-told}
use Rattle.efrp_types.proofs.types.literal_as.Goals as goal

pub returns-in_err-found : goal.returns-in_err-found
returns-in_err-found c = λ p. told-first _ _ _ c.from_residual.result c.from_residual.ensures.1 (c.in_err-found.ensures p)

pub returns : goal.returns
returns c = λ p. as-told (unlike c.args.owner.now c.args.wanted) _ _ c.in_ok-found.found c.unlike.result (c.in_ok-found.ensures p) c.unlike.ensures
