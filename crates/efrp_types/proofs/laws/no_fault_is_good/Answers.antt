use Rattle.efrp_types.proofs.GoodLaws.{no-fault-is-good}
use Rattle.efrp_types.proofs.laws.no_fault_is_good.Goals as goal

pub returns : goal.returns
returns c = no-fault-is-good
