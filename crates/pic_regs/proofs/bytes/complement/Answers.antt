use Rattle.std.proofs.Common.{arith}
use Rattle.pic_regs.proofs.BitLaws.{bits-not}
use Rattle.pic_regs.proofs.bytes.complement.Goals as goal

pub returns : goal.returns
returns c = bits-not c.args.byte (omega arith)
