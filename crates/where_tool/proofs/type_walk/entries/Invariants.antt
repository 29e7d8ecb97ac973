use Rattle.frp_tree.specs.Tree.{ProgramTree}
use Rattle.where_tool.specs.Visits.{entry_visits}
use Rattle.where_tool.proofs.WalkFacts.{Gone}
use Rattle.where_tool.proofs.type_walk.entries.Given as goal

abbrev pub invariant-loop-i : goal.invariant-loop-i
invariant-loop-i l = (p : ProgramTree) → Gone (entry_visits p l.owner l.wanted l.decl) l.entries l.i
