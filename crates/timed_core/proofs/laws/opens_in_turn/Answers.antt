use Rattle.timed_core.proofs.WindowLaws.{opens_in_turn}
use Rattle.timed_core.proofs.laws.opens_in_turn.Goals as goal

pub returns : goal.returns
returns c = λ p tale. opens_in_turn p tale
