use Rattle.pic_regs.proofs.BitLaws.{bits-and}
use Rattle.pic_regs.proofs.bytes.both.Goals as goal

pub returns : goal.returns
returns c = bits-and c.args.x c.args.y
