use Rattle.pic_regs.specs.Places.{reg_of}
use Rattle.glue_parts.proofs.PieceLaws.{makes_change, blind_change}
use Rattle.glue_parts.proofs.laws.changes.Goals as goal

pub returns : goal.returns
returns c = λ bank p changing byte numbered may steady. (makes_change bank p changing byte numbered may steady, blind_change (reg_of p) changing byte may steady)
