use Rattle.std.proofs.Common.{◌≡◌, take, drop}
use Rattle.std.specs.Prelude.{map}
use Rattle.preempt_core.specs.Standing.{voided}
use Rattle.preempt_core.proofs.runs.void_all.Given as goal

abbrev pub invariant-loop-run : goal.invariant-loop-run
invariant-loop-run l = record { done : take l.run-index l.runs ≡ map voided (take l.run-index l.initial.runs); rest : drop l.run-index l.runs ≡ drop l.run-index l.initial.runs }
