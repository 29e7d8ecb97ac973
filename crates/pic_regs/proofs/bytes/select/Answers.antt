use Rattle.std.proofs.Common.{arith}
use Rattle.pic_regs.proofs.BitLaws.{bits-pick}
use Rattle.pic_regs.proofs.bytes.select.Goals as goal

pub returns : goal.returns
returns c = bits-pick c.args.choice c.args.zero c.args.one (omega arith)
