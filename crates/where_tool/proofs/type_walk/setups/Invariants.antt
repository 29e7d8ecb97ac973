use Rattle.where_tool.specs.Visits.{setup_byte_visits}
use Rattle.where_tool.proofs.WalkFacts.{Gone}
use Rattle.where_tool.proofs.type_walk.setups.Given as goal

abbrev pub invariant-loop-i : goal.invariant-loop-i
invariant-loop-i l = Gone setup_byte_visits l.setups l.i
