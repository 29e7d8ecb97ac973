use Rattle.std.proofs.Common.{refl}
use Rattle.checked_source.specs.Readings.{Faulty, Misused, Cyclic}
use Rattle.where_tool.proofs.PointFacts.{ok-map}
use Rattle.where_tool.proofs.verdicts.fault_line.Goals as goal

pub returns-in-Syntax : goal.returns-in-Syntax
returns-in-Syntax c = rw c.in-Syntax.is (ok-map _ _ c.syntax_line.result (λ line is. (Faulty _, refl, is.1)) c.syntax_line.ensures)

pub returns-in-Check : goal.returns-in-Check
returns-in-Check c = rw c.in-Check.is (ok-map _ _ c.check_line.result (λ line is. (Misused _, refl, is.1)) c.check_line.ensures)

pub returns-in-Cycle : goal.returns-in-Cycle
returns-in-Cycle c = rw c.in-Cycle.is (ok-map _ _ c.cycle_line.result (λ line is. (Cyclic _ _, refl, is)) c.cycle_line.ensures)
