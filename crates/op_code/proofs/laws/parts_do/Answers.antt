use Rattle.op_code.proofs.OrderLaws.{parts_do}
use Rattle.op_code.proofs.laws.parts_do.Goals as goal

pub returns : goal.returns
returns c = parts_do
