use Rattle.pic_regs.proofs.BitLaws.{bits-xor}
use Rattle.pic_regs.proofs.bytes.differing.Goals as goal

pub returns : goal.returns
returns c = bits-xor c.args.x c.args.y
