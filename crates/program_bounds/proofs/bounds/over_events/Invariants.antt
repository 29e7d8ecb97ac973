use Rattle.std.proofs.Common.{take}
use Rattle.frp_tree.specs.Tree.{program_tree_of}
use Rattle.program_bounds.specs.Sized.{AreTotalsOf}
use Rattle.program_bounds.proofs.bounds.over_events.Given as goal

abbrev pub invariant-loop-event : goal.invariant-loop-event
invariant-loop-event l = AreTotalsOf (program_tree_of l.c.typed.program) l.copied l.off (take l.event l.c.typed.program.events) l.all
