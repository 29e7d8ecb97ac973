use Rattle.code_story.proofs.SimulatedLaws.{always_keeps}
use Rattle.code_story.proofs.laws.code_keeps.Goals as goal

pub returns : goal.returns
returns c = λ f image its. always_keeps f image its.has its.maps
