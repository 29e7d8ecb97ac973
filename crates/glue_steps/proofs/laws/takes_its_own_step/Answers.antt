use Rattle.glue_steps.proofs.BoundaryLaws.{boundary_told}
use Rattle.glue_steps.proofs.laws.takes_its_own_step.Goals as goal

pub returns : goal.returns
returns c = boundary_told
