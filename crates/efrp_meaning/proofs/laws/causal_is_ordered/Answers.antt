use Rattle.efrp_meaning.proofs.OrderLaws.{causal-is-ordered}
use Rattle.efrp_meaning.proofs.laws.causal_is_ordered.Goals as goal

pub returns : goal.returns
returns c = causal-is-ordered
