use Rattle.glue_steps.proofs.JumpLaws.{jump_told_at}
use Rattle.glue_steps.proofs.laws.jumps_to_its_mark.Goals as goal

pub returns : goal.returns
returns c = jump_told_at
