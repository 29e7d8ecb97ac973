use Rattle.std.proofs.Common.{subst}
use Rattle.efrp_types.specs.Answers.{TellsType}
use Rattle.where_tool.proofs.WalkFacts.{part-none, part-halts}
use Rattle.where_tool.proofs.meetings.met_type.Goals as goal

pub returns-in-Ok : goal.returns-in-Ok
returns-in-Ok c = λ faults type tells. let told = subst (λ r. TellsType faults type r) c.in-Ok.is tells in (part-none c.args.part faults told.0, told.1)

pub returns-in-Err : goal.returns-in-Err
returns-in-Err c = λ faults type tells. part-halts c.args.part c.in-Err.fault faults c.halted.result c.halted.ensures.memory c.halted.ensures.met (subst (λ r. TellsType faults type r) c.in-Err.is tells)
