use Rattle.firmware_story.proofs.VectorLaws.{vector-is-had}
use Rattle.firmware_story.proofs.laws.vector_is_had.Goals as goal

pub returns : goal.returns
returns c = vector-is-had
