use Rattle.std.specs.Prelude.{◌≡◌}
use Rattle.large_program.specs.Draws.{after_draws}
use Rattle.large_program.proofs.draws.Draws.after.Given as goal

abbrev pub invariant-loop : goal.invariant-loop
invariant-loop l = l.drawn.number ≡ after_draws l.counter l.n
