use Rattle.glue_steps.proofs.JumpLaws.{skip_told_at}
use Rattle.glue_steps.proofs.laws.skips_or_jumps.Goals as goal

pub returns : goal.returns
returns c = skip_told_at
