use Rattle.std.specs.Prelude.{◌++◌, map}
use Rattle.std.proofs.Common.{take}
use Rattle.frp_tree.specs.Tree.{OutputTree, program_tree_of}
use Rattle.event_needs.specs.Marking.{AreNamed, clause_expressions}
use Rattle.event_needs.proofs.walks.mark_outputs.Given as goal

abbrev pub invariant-loop-o : goal.invariant-loop-o
invariant-loop-o l =
    AreNamed (program_tree_of l.typed.program)
    (clause_expressions l.event (program_tree_of l.typed.program).decls ++ map (λ (o : OutputTree). o.expr) (take l.o-index (program_tree_of l.typed.program).outputs)) l.marked.items
