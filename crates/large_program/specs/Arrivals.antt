-- What arrives in the run of a large program: 200 arrivals, each of one source at a boundary of its own.
use Rattle.std.specs.Prelude.{ℕ, zero, suc, ◌+◌, ◌*◌, List, map}
use Rattle.std.specs.List.{range_with_len}
use Rattle.large_program.specs.declared.arriving.OneArrival.{OneArrival}
use Rattle.large_program.specs.Draws.{after_draws, draw}

-- The number after the draws of the program, from which the arrivals are drawn.
abbrev pub after_program : ℕ → ℕ
after_program n = after_draws 96 n

-- The boundary of arrival i, counted from 0: the first is 1000, and each later one is one more than a draw below 600 after the one
-- before. Each draw of a boundary comes before that of its source; the first has none.
unfoldable pub boundary_of : ℕ → ℕ → ℕ
boundary_of n zero = 1000
boundary_of n (suc i) = boundary_of n i + (1 + draw (after_program n) (2 * i + 2) 600)

-- The number of its source.
abbrev pub source_of : ℕ → ℕ → ℕ
source_of n i = draw (after_program n) (2 * i + 1) 11

abbrev pub nth_arrival : ℕ → ℕ → OneArrival
nth_arrival n i = record { at = boundary_of n i; source = source_of n i }

-- The first arrivals of a number, and all of them, by rising boundary.
abbrev pub arrivals_below : ℕ → ℕ → List OneArrival
arrivals_below n count = map (nth_arrival n) (range_with_len 0 count)

abbrev pub arrivals : ℕ → List OneArrival
arrivals n = arrivals_below n 200

-- The last boundary at which something arrives.
abbrev pub last_boundary : ℕ → ℕ
last_boundary n = boundary_of n 199
