use Rattle.timed_core.proofs.WindowLaws.{closes_in_time}
use Rattle.timed_core.proofs.laws.closes_in_time.Goals as goal

pub returns : goal.returns
returns c = λ p tale. closes_in_time p tale
