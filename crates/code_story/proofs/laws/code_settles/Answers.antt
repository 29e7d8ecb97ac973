use Rattle.code_story.proofs.SimulatedLaws.{always_settles}
use Rattle.code_story.proofs.laws.code_settles.Goals as goal

pub returns : goal.returns
returns c = λ f image its. always_settles f image its.has its.maps
