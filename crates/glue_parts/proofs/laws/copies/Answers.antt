use Rattle.pic_regs.specs.Places.{reg_of}
use Rattle.glue_parts.proofs.PieceLaws.{makes_copy, blind_copy}
use Rattle.glue_parts.proofs.laws.copies.Goals as goal

pub returns : goal.returns
returns c = λ bank from to numbered also may write. (makes_copy bank from to numbered also may write, blind_copy (reg_of from) (reg_of to) may write)
