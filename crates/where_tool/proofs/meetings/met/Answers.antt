use Rattle.std.proofs.Common.{subst}
use Rattle.efrp_types.specs.Answers.{Tells}
use Rattle.where_tool.proofs.WalkFacts.{part-none, part-halts}
use Rattle.where_tool.proofs.meetings.met.Goals as goal

pub returns-in-Ok : goal.returns-in-Ok
returns-in-Ok c = λ faults tells. (part-none c.args.part faults (subst (λ r. Tells faults r) c.in-Ok.is tells), tt)

pub returns-in-Err : goal.returns-in-Err
returns-in-Err c = λ faults tells. part-halts c.args.part c.in-Err.fault faults c.halted.result c.halted.ensures.memory c.halted.ensures.met (subst (λ r. Tells faults r) c.in-Err.is tells)
