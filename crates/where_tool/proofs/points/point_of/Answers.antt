use Rattle.where_tool.proofs.points.point_of.Goals as goal

pub syntax_point-requires : goal.syntax_point-requires
syntax_point-requires c = let read = rw c.in-Syntax.is at c.requires in read.0

pub check_point-requires : goal.check_point-requires
check_point-requires c = let read = rw c.in-Check.is at c.requires in read.0

pub cycle_point-requires : goal.cycle_point-requires
cycle_point-requires c = let read = rw c.in-Cycle.is at c.requires in let such = read.0 in (such.0, such.1, such.2.1)

pub returns-in-Syntax : goal.returns-in-Syntax
returns-in-Syntax c = rw c.in-Syntax.is c.syntax_point.ensures

pub returns-in-Check : goal.returns-in-Check
returns-in-Check c = rw c.in-Check.is c.check_point.ensures

pub returns-in-Cycle : goal.returns-in-Cycle
returns-in-Cycle c = rw c.in-Cycle.is c.cycle_point.ensures
