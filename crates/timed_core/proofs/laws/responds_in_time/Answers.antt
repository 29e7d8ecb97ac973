use Rattle.timed_core.proofs.ResponseLaws.{responds}
use Rattle.timed_core.proofs.laws.responds_in_time.Goals as goal

pub returns : goal.returns
returns c = λ p tale off listed within. responds p listed tale off within
