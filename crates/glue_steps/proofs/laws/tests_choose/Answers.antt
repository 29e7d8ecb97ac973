use Rattle.glue_steps.proofs.ChoiceLaws.{tests_told_at}
use Rattle.glue_steps.proofs.laws.tests_choose.Goals as goal

pub returns : goal.returns
returns c = tests_told_at
