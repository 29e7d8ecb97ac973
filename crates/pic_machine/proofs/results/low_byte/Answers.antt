use Rattle.pic_machine.proofs.ByteArithmeticFacts.{low-bits}
use Rattle.pic_machine.proofs.results.low_byte.Goals as goal

pub returns : goal.returns
returns c = low-bits c.args.number
