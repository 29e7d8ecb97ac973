use Rattle.op_code.proofs.OrderLaws.{none_does}
use Rattle.op_code.proofs.laws.none_does.Goals as goal

pub returns : goal.returns
returns c = none_does
