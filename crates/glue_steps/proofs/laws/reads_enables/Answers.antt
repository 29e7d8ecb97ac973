use Rattle.glue_steps.proofs.StretchLaws.{intcon_told}
use Rattle.glue_steps.proofs.laws.reads_enables.Goals as goal

pub returns : goal.returns
returns c = intcon_told
