use Rattle.efrp_types.proofs.GoodLaws.{passed-reacts}
use Rattle.efrp_types.proofs.laws.passed_reacts.Goals as goal

pub returns : goal.returns
returns c = passed-reacts
