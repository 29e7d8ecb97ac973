use Rattle.two_phase.proofs.GiveLaws.{plans-give}
use Rattle.two_phase.proofs.laws.plans_give.Goals as goal

pub returns : goal.returns
returns c = plans-give
