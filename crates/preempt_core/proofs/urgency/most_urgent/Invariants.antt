use Rattle.std.proofs.Common.{◌≡◌, ◌<◌}
use Rattle.std.specs.Prelude.{IfSome}
use Rattle.preempt_core.specs.Runs.{most_urgent}
use Rattle.preempt_core.specs.Standing.{latch_of}
use Rattle.preempt_core.proofs.urgency.most_urgent.Given as goal

abbrev pub invariant-loop-e : goal.invariant-loop-e
invariant-loop-e l = record { best : l.best ≡ most_urgent l.priorities (latch_of l.latched) l.e; within : IfSome l.best (λ b. b < l.e) }
