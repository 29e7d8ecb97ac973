use Rattle.std.proofs.Common.{◌∙◌}
use Rattle.where_tool.proofs.points.syntax_point.Goals as goal

pub returns : goal.returns
returns c = (c.in_ok-place.ensures, c.in_ok-message.ensures.ok ∙ c.syntax_message.ensures)
