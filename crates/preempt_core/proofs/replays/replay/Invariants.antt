use Rattle.std.proofs.Common.{take}
use Rattle.frp_tree.specs.Tree.{program_tree_of}
use Rattle.preempt_core.proofs.ReplayFacts.{Stands}
use Rattle.preempt_core.proofs.replays.replay.Given as goal

abbrev pub invariant-loop-n : goal.invariant-loop-n
invariant-loop-n l = Stands (program_tree_of l.c.typed.program) l.samples (take l.n l.steps) l.core l.played
