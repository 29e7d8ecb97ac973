use Rattle.std.proofs.Common.{ℕ, ◌<◌}
use Rattle.causality.specs.Graphs.{IsRound}
use Rattle.causality.proofs.rounds.first_round.Given as goal

abbrev pub invariant-loop-x : goal.invariant-loop-x
invariant-loop-x l = (k : ℕ) → k < l.x → ¬ IsRound l.graph k
