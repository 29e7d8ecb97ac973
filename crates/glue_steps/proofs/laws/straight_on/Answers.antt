use Rattle.glue_steps.proofs.StretchLaws.{straight_on}
use Rattle.glue_steps.proofs.laws.straight_on.Goals as goal

pub returns : goal.returns
returns c = straight_on
