use Rattle.where_tool.proofs.VerdictFacts.{of-text, works-memory}
use Rattle.where_tool.proofs.verdicts.of_read.Goals as goal

pub returns-in_err-told-in-Ok : goal.returns-in_err-told-in-Ok
returns-in_err-told-in-Ok c = λ before after gives. works-memory _ before after c.from_residual.result c.from_residual.ensures.1

pub returns-in_ok-told-in-Ok : goal.returns-in_ok-told-in-Ok
returns-in_ok-told-in-Ok c =
    λ before after gives. of-text _ before after c.in-Ok.text c.as_slice.result.now c.in_ok-told-in-Ok.told (rw c.in-Ok.is at gives) c.as_slice.ensures c.in_ok-told-in-Ok.ensures

pub returns-in-Err : goal.returns-in-Err
returns-in-Err c = λ before after gives. c.of_halt.ensures before after (rw c.in-Err.is at gives)
