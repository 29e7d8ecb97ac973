use Rattle.frp_tree.specs.Tree.{program_tree_of}
use Rattle.causality.proofs.EventFacts.{Begun}
use Rattle.causality.proofs.checks.all_orders.Given as goal

abbrev pub invariant-loop-i : goal.invariant-loop-i
invariant-loop-i l = Begun (program_tree_of l.fn.t.program) l.i l.orders
