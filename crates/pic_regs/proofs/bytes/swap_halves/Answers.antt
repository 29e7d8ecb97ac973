use Rattle.std.proofs.Common.{arith}
use Rattle.pic_regs.proofs.BitLaws.{bits-swapped}
use Rattle.pic_regs.proofs.bytes.swap_halves.Goals as goal

pub returns : goal.returns
returns c = bits-swapped c.args.byte (omega arith)
