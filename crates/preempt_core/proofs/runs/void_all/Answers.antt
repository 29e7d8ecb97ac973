use Rattle.std.proofs.Common.{false, arith}
use Rattle.preempt_core.proofs.StandingFacts.{one_more_void}
use Rattle.preempt_core.proofs.runs.void_all.Goals as goal

pub loop-run-preserved : goal.loop-run-preserved
loop-run-preserved c =
    let next = one_more_void c.loop-run.run-index c.loop-run.runs c.args.runs.now (record { event = 0; void = false; committed = false }) (omega arith) (omega arith) c.loop-run.invariant.done c.loop-run.invariant.rest in
    record { done = next.0; rest = next.1 }
