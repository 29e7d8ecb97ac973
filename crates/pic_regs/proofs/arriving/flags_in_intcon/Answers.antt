use Rattle.pic_regs.proofs.SetFacts.{bits-intcon}
use Rattle.pic_regs.proofs.arriving.flags_in_intcon.Goals as goal

pub returns : goal.returns
returns c = bits-intcon c.args.set
