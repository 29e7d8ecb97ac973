use Rattle.where_tool.specs.Visits.{event_visits}
use Rattle.where_tool.proofs.WalkFacts.{Gone}
use Rattle.where_tool.proofs.name_walk.events.Given as goal

abbrev pub invariant-loop-i : goal.invariant-loop-i
invariant-loop-i l = Gone event_visits l.events l.i
