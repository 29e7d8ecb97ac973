use Rattle.efrp_meaning.proofs.CycleLaws.{leads-round}
use Rattle.efrp_meaning.proofs.laws.leads_round.Goals as goal

pub returns : goal.returns
returns c = leads-round
