use Rattle.where_tool.proofs.WalkFacts.{handed-first, walks-rest}
use Rattle.where_tool.proofs.name_walk.walk_names.Goals as goal

pub returns-in_err-items : goal.returns-in_err-items
returns-in_err-items c = handed-first _ _ (λ (done : Unit {0}). Unit {0}) _ c.from_residual.result c.from_residual.ensures.1 c.in_err-items.ensures

pub returns : goal.returns
returns c = let walked = c.in_ok-items.ensures in walks-rest _ _ (λ (done : Unit {0}). Unit {0}) c.expressions.result walked.0 c.expressions.ensures
