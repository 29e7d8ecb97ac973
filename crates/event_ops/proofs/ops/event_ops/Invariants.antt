use Rattle.frp_tree.specs.Tree.{program_tree_of}
use Rattle.efrp_types.specs.Numbers.{event_name}
use Rattle.event_ops.specs.Drafts.{IsDraftedTo}
use Rattle.event_ops.proofs.ops.event_ops.Given as goal

abbrev pub invariant-loop-k : goal.invariant-loop-k
invariant-loop-k l = IsDraftedTo (program_tree_of l.c.typed.program) (event_name (program_tree_of l.c.typed.program) l.event) l.plan l.k l.draft
