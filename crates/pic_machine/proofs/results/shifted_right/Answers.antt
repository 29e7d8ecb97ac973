use Rattle.std.proofs.Common.{◌∙◌, arith}
use Rattle.pic_machine.proofs.ByteArithmeticFacts.{one_if-bool, right-bits}
use Rattle.pic_machine.proofs.results.shifted_right.Goals as goal

pub returns : goal.returns
returns c = right-bits c.args.byte c.from.result c.args.high (omega arith) (c.from.ensures ∙ one_if-bool c.args.high)
