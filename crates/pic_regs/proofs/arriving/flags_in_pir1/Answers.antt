use Rattle.pic_regs.proofs.SetFacts.{bits-pir1}
use Rattle.pic_regs.proofs.arriving.flags_in_pir1.Goals as goal

pub returns : goal.returns
returns c = bits-pir1 c.args.set
