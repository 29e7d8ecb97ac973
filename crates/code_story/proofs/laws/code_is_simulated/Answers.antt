use Rattle.code_story.proofs.SimulatedLaws.{simulated}
use Rattle.code_story.proofs.laws.code_is_simulated.Goals as goal

pub returns : goal.returns
returns c = λ f. simulated f
