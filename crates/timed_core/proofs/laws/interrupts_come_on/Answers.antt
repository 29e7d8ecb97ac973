use Rattle.timed_core.proofs.OnLaws.{comes_on}
use Rattle.timed_core.proofs.laws.interrupts_come_on.Goals as goal

pub returns : goal.returns
returns c = λ p tale off within. comes_on p tale off within
