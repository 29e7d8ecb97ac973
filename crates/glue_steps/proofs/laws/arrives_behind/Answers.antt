use Rattle.glue_steps.proofs.LineLaws.{ran_alone, skips_alone, put_alone}
use Rattle.glue_steps.proofs.laws.arrives_behind.Goals as goal

pub returns : goal.returns
returns c = λ line c d glue alone. (ran_alone line glue c d alone, skips_alone line glue c d alone, put_alone line glue c d alone)
