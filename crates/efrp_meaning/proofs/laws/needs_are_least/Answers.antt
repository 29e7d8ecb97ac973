use Rattle.efrp_meaning.proofs.NeedsLaws.{needs-are-least}
use Rattle.efrp_meaning.proofs.laws.needs_are_least.Goals as goal

pub returns : goal.returns
returns c = needs-are-least
