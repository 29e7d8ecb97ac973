use Rattle.frp_tree.specs.Tree.{program_tree_of}
use Rattle.firmware.specs.Making.{AreWorksOf}
use Rattle.firmware.proofs.works.works_of.Given as goal

abbrev pub invariant-loop-event : goal.invariant-loop-event
invariant-loop-event l = AreWorksOf (program_tree_of l.c.typed.program) l.places.need l.event l.works.items
