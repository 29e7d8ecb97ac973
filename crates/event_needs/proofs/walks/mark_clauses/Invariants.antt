use Rattle.std.proofs.Common.{take}
use Rattle.frp_tree.specs.Tree.{program_tree_of}
use Rattle.event_needs.specs.Marking.{AreNamed, clause_expressions}
use Rattle.event_needs.proofs.walks.mark_clauses.Given as goal

abbrev pub invariant-loop-d : goal.invariant-loop-d
invariant-loop-d l = AreNamed (program_tree_of l.typed.program) (clause_expressions l.event (take l.d-index (program_tree_of l.typed.program).decls)) l.marked.items
