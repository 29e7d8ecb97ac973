use Rattle.std.specs.Prelude.{◌≡◌, ◌≤◌, ◌+◌, ◌*◌}
use Rattle.large_program.specs.Draws.{after_draws}
use Rattle.large_program.specs.Arrivals.{arrivals_below, boundary_of}
use Rattle.large_program.proofs.arriving.arrivals.Given as goal

abbrev pub invariant-loop : goal.invariant-loop
invariant-loop l =
    (l.all ≡ arrivals_below l.n l.counter) × (l.at ≡ boundary_of l.n l.counter) × (l.at ≤ 1000 + 600 * l.counter)
    × (l.draws.number ≡ after_draws (2 * l.counter) (after_draws 96 l.n))
