use Rattle.pic_regs.specs.Places.{reg_of}
use Rattle.glue_parts.proofs.PieceLaws.{makes_bit, blind_bit}
use Rattle.glue_parts.proofs.laws.makes_bit.Goals as goal

pub returns : goal.returns
returns c = λ known p b v may at. (makes_bit known p b v may at, blind_bit (reg_of p) b v may)
