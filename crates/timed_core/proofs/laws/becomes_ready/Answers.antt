use Rattle.timed_core.proofs.OnLaws.{ready}
use Rattle.timed_core.proofs.laws.becomes_ready.Goals as goal

pub returns : goal.returns
returns c = λ p tale. ready p tale
