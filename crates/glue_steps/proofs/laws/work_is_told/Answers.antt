use Rattle.glue_steps.proofs.StretchLaws.{work_told_at}
use Rattle.glue_steps.proofs.laws.work_is_told.Goals as goal

pub returns : goal.returns
returns c = work_told_at
