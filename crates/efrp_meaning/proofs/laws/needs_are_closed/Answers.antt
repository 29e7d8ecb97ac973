use Rattle.efrp_meaning.proofs.NeedsLaws.{needs-are-closed}
use Rattle.efrp_meaning.proofs.laws.needs_are_closed.Goals as goal

pub returns : goal.returns
returns c = needs-are-closed
