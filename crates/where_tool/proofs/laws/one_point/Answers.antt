use Rattle.where_tool.proofs.PointLaws.{one-point}
use Rattle.where_tool.proofs.laws.one_point.Goals as goal

pub returns : goal.returns
returns c = one-point
