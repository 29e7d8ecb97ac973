use Rattle.std.proofs.Common.{◌-◌, ◌≤◌}
use Rattle.arrival_script.specs.Running.{Running}
use Rattle.arrival_script.proofs.traces.trace.Given as goal

abbrev pub invariant-loop-step : goal.invariant-loop-step
invariant-loop-step g l = record {
  inside : l.step ≤ l.s.steps;
  running : Running l.map l.image l.s l.step l.tracer (g.S.Sink.seen l.initial.out).taken (g.S.Sink.seen l.out).taken;
  count : (g.S.Sink.seen l.initial.out).put_faults ≤ (g.S.Sink.seen l.out).put_faults;
}

abbrev pub decreases-loop-step : goal.decreases-loop-step
decreases-loop-step g l = l.s.steps - l.step
