use Rattle.where_tool.proofs.PointLaws.{point-within}
use Rattle.where_tool.proofs.laws.point_is_within.Goals as goal

pub returns : goal.returns
returns c = point-within
