use Rattle.std.proofs.Common.{◌∙◌}
use Rattle.pic_machine.proofs.ByteArithmeticFacts.{left-bits, one_if-bool}
use Rattle.pic_machine.proofs.results.shifted_left.Goals as goal

pub returns : goal.returns
returns c = left-bits c.args.byte c.from.result c.args.low (c.from.ensures ∙ one_if-bool c.args.low)
