use Rattle.frp_tree.specs.declared.marks.TheConstants.{ARROW}
use Rattle.where_tool.specs.PartTokens.{is_mark}
use Rattle.where_tool.proofs.PlaceFacts.{Left}
use Rattle.where_tool.proofs.part_tokens.arrow_behind.Given as goal

abbrev pub invariant-loop-i : goal.invariant-loop-i
invariant-loop-i l = Left (is_mark ARROW) l.tokens l.from l.number l.i l.left
