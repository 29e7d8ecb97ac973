use Rattle.code_story.proofs.SimulatedLaws.{always_responds}
use Rattle.code_story.proofs.laws.code_responds.Goals as goal

pub returns : goal.returns
returns c = λ f image its. always_responds f image its.has its.maps
