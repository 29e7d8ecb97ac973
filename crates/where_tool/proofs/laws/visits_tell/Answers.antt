use Rattle.where_tool.proofs.VisitLaws.{visits-tell}
use Rattle.where_tool.proofs.laws.visits_tell.Goals as goal

pub returns : goal.returns
returns c = visits-tell
