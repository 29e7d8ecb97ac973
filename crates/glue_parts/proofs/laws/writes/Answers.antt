use Rattle.pic_regs.specs.Bytes.{bits}
use Rattle.pic_regs.specs.Places.{reg_of}
use Rattle.glue_parts.proofs.MakeLaws.{makes_write, blind_write}
use Rattle.glue_parts.proofs.laws.writes.Goals as goal

pub returns : goal.returns
returns c = λ bank p byte numbered may. (makes_write bank p byte numbered may, blind_write (reg_of p) (bits byte) may)
