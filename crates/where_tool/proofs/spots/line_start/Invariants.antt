use Rattle.std.proofs.Common.{take}
use Rattle.where_tool.proofs.LineFacts.{HasLines}
use Rattle.where_tool.proofs.spots.line_start.Given as goal

abbrev pub invariant-loop-i : goal.invariant-loop-i
invariant-loop-i l = HasLines (take l.i l.before) l.start
