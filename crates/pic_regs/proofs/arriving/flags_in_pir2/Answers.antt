use Rattle.pic_regs.proofs.SetFacts.{bits-pir2}
use Rattle.pic_regs.proofs.arriving.flags_in_pir2.Goals as goal

pub returns : goal.returns
returns c = bits-pir2 c.args.set
