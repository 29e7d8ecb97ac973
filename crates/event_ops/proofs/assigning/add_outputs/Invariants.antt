use Rattle.std.proofs.Common.{take}
use Rattle.frp_tree.specs.Tree.{program_tree_of}
use Rattle.event_ops.specs.Drafts.{Shows}
use Rattle.event_ops.proofs.assigning.add_outputs.Given as goal

abbrev pub invariant-loop-output : goal.invariant-loop-output
invariant-loop-output l = Shows (program_tree_of l.c.typed.program) l.fn.draft l.draft (take l.output-index (program_tree_of l.c.typed.program).outputs) l.puts
