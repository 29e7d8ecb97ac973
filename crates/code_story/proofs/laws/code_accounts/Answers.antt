use Rattle.code_story.proofs.SimulatedLaws.{always_accounted}
use Rattle.code_story.proofs.laws.code_accounts.Goals as goal

pub returns : goal.returns
returns c = λ f image its. always_accounted f image its.has its.maps
