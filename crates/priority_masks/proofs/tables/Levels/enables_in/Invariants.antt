use Rattle.frp_tree.specs.Tree.{ProgramTree}
use Rattle.priority_masks.specs.Levels.{AreLevelsOf}
use Rattle.priority_masks.proofs.EnableFacts.{HasEnablesOf}
use Rattle.priority_masks.proofs.tables.Levels.enables_in.Given as goal

abbrev pub invariant-loop-event : goal.invariant-loop-event
invariant-loop-event l = (p : ProgramTree) → AreLevelsOf p l.self → HasEnablesOf p l.level l.register l.event l.byte
