use Rattle.timed_core.proofs.OvertakingLaws.{no_overtaking}
use Rattle.timed_core.proofs.laws.none_overtakes.Goals as goal

pub returns : goal.returns
returns c = λ p tale quick. no_overtaking p tale quick
