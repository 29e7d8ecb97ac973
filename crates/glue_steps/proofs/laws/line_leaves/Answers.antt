use Rattle.glue_steps.proofs.LineLaws.{line_is}
use Rattle.glue_steps.proofs.laws.line_leaves.Goals as goal

pub returns : goal.returns
returns c = λ known line c glue banked reached. line_is known line c glue banked reached
