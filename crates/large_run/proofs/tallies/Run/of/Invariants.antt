use Rattle.std.proofs.Common.{◌≡◌, ℕ, ◌<◌}
use Rattle.std.specs.List.{AllByRecursion}
use Rattle.arrival_script.specs.Sends.{RiseFrom}
use Rattle.large_program.specs.Arrivals.{arrivals}
use Rattle.large_run.specs.Tallies.{HasRun, IsFew, as_script, steps_of}
use Rattle.large_run.proofs.tallies.Run.of.Given as goal

abbrev pub invariant-loop-boundary : goal.invariant-loop-boundary
invariant-loop-boundary l = record {
  rise : RiseFrom l.boundary (as_script l.run.pending.now);
  sources : AllByRecursion (λ a. a.source < 11) l.run.pending.now;
  few : IsFew l.boundary l.run.tally;
  ran : (n : ℕ) → l.pending ≡ arrivals n → l.steps ≡ steps_of n l.map → HasRun n l.image l.map l.boundary l.run;
}
