use Rattle.vector_steps.proofs.VectorLaws.{vector-does}
use Rattle.vector_steps.proofs.laws.vector_does.Goals as goal

pub returns : goal.returns
returns c = vector-does
