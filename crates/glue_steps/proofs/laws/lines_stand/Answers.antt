use Rattle.glue_steps.proofs.StraightLaws.{lines_stand}
use Rattle.glue_steps.proofs.laws.lines_stand.Goals as goal

pub returns : goal.returns
returns c = lines_stand
