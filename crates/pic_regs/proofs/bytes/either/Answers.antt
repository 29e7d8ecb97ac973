use Rattle.pic_regs.proofs.BitLaws.{bits-or}
use Rattle.pic_regs.proofs.bytes.either.Goals as goal

pub returns : goal.returns
returns c = bits-or c.args.x c.args.y
