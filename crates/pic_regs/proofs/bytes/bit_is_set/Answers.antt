use Rattle.pic_regs.proofs.BitLaws.{bit-shifted}
use Rattle.pic_regs.proofs.bytes.bit_is_set.Goals as goal

pub returns : goal.returns
returns c = bit-shifted c.args.number c.args.byte c.requires
