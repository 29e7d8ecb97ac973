use Rattle.std.proofs.Common.{refl}
use Rattle.checked_source.specs.Readings.{Faulty, Misused, Cyclic}
use Rattle.frp_tool.proofs.source.program_in.Goals as goal

pub returns-in_ok-syntax_line-in-Err-Syntax : goal.returns-in_ok-syntax_line-in-Err-Syntax
returns-in_ok-syntax_line-in-Err-Syntax c = (Faulty c.in-Err-Syntax.fault, (rw c.in-Err-Syntax.field-0-is at c.in-Err-Syntax.ensures, tt), refl, c.in_ok-syntax_line-in-Err-Syntax.ensures.1)

pub returns-in_ok-check_line-in-Err-Check : goal.returns-in_ok-check_line-in-Err-Check
returns-in_ok-check_line-in-Err-Check c = (Misused c.in-Err-Check.fault, (rw c.in-Err-Check.field-0-is at c.in-Err-Check.ensures, tt), refl, c.in_ok-check_line-in-Err-Check.ensures.1)

pub returns-in_ok-cycle_line-in-Err-Cycle : goal.returns-in_ok-cycle_line-in-Err-Cycle
returns-in_ok-cycle_line-in-Err-Cycle c =
    (Cyclic c.in-Err-Cycle.event c.in-Err-Cycle.name, (rw c.in-Err-Cycle.field-0-is at c.in-Err-Cycle.ensures, tt), refl, c.in_ok-cycle_line-in-Err-Cycle.ensures)
