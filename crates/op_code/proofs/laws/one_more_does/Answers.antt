use Rattle.op_code.proofs.OrderLaws.{one_more_does}
use Rattle.op_code.proofs.laws.one_more_does.Goals as goal

pub returns : goal.returns
returns c = one_more_does
