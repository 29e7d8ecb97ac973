use Rattle.std.proofs.Common.{drop}
use Rattle.frp_tree.specs.Tree.{program_tree_of}
use Rattle.efrp_types.specs.Numbers.{event_name}
use Rattle.event_needs.proofs.ReachFacts.{IsReached}
use Rattle.event_needs.proofs.NumberLaws.{names-differ}
use Rattle.event_needs.proofs.walks.mark_plain.Given as goal

abbrev pub invariant-loop-k : goal.invariant-loop-k
invariant-loop-k l = IsReached (program_tree_of l.c.typed.program) (names-differ l.c) (event_name (program_tree_of l.c.typed.program) l.event) (drop l.k l.order) l.marked.items
