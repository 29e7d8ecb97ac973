use Rattle.code_story.proofs.SimulatedLaws.{always_tied}
use Rattle.code_story.proofs.laws.code_is_tied.Goals as goal

pub returns : goal.returns
returns c = λ f image its. always_tied f image its.has its.maps
