use Rattle.std.proofs.Common.{take}
use Rattle.where_tool.proofs.LineFacts.{rest-whole, spot-at}
use Rattle.where_tool.proofs.spots.spot_of.Goals as goal

pub returns : goal.returns
returns c =
    let rest = rw (rest-whole c.args.text.now c.args.place) at c.rest_of_line-back.ensures in
    rw (rest-whole (take c.args.place c.args.text.now) c.line_start-start.result)
    (spot-at c.args.text.now c.args.place c.line_start-start.result c.line_ends-above.result c.rest_of_line-back.result.now c.requires c.line_start-start.ensures c.line_ends-above.ensures rest)
