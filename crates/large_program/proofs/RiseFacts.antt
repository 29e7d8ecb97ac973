-- The arrivals of a number rise, and are of the eleven sources.
use Rattle.std.proofs.Common.{◌≡◌, ℕ, zero, suc, ◌+◌, ◌*◌, ◌<◌, ◌≤◌, ap, ◌∙◌, arith}
use Rattle.large_program.specs.Draws.{draw}
use Rattle.large_program.specs.Arrivals.{after_program, boundary_of}
use Rattle.large_program.specs.Laws.{ArrivalsRise}
use Rattle.large_program.proofs.ProgramFacts.{next_boundary, first_boundary}

-- What is drawn below 600 is less.
gap_below : (s i : ℕ) → draw s (2 * i + 2) 600 < 600
gap_below s i = omega arith

boundary_bound : (n i : ℕ) → boundary_of n i ≤ 1000 + 600 * i
boundary_bound n zero = omega (arith, first_boundary n)
boundary_bound n (suc i) = omega (arith, next_boundary n i, gap_below (after_program n) i, boundary_bound n i)

one_later : (n i : ℕ) → boundary_of n (i + 1) ≡ boundary_of n i + (1 + draw (after_program n) (2 * i + 2) 600)
one_later n i = let e : i + 1 ≡ suc i = omega arith in ap (boundary_of n) e ∙ next_boundary n i

pub rises : (n i : ℕ) → ArrivalsRise n i
rises n i = record {
  later = omega (arith, one_later n i);
  soon = omega (arith, one_later n i, gap_below (after_program n) i);
  bound = boundary_bound n i;
  source = omega arith;
}
