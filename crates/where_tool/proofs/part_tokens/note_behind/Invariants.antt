use Rattle.frp_tree.specs.Cells.{is_of}
use Rattle.efrp_syntax.specs.declared.begun.Begun.{Begun}
use Rattle.where_tool.proofs.PlaceFacts.{Left}
use Rattle.where_tool.proofs.part_tokens.note_behind.Given as goal

abbrev pub invariant-loop-i : goal.invariant-loop-i
invariant-loop-i l = Left (λ (n : Begun). is_of l.kind n.kind) l.notes l.from l.number l.i l.left
