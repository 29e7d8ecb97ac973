-- Laws on the large program of each number: it passes the checks, what is printed of it spells it, it fits the chip, and its
-- arrivals rise.
use Rattle.std.proofs.Common.{ℕ}
use Rattle.large_program.specs.Laws.{ArrivalsRise, LargeFits, LargePasses, PrintsWell}
use Rattle.large_program.proofs.FitFacts.{fits}
use Rattle.large_program.proofs.PassFacts.{passes}
use Rattle.large_program.proofs.PrintFacts.{prints}
use Rattle.large_program.proofs.RiseFacts.{rises}

pub large_passes : (n : ℕ) → LargePasses n
large_passes = passes

pub prints_well : (n : ℕ) → PrintsWell n
prints_well = prints

pub large_fits : (n : ℕ) → LargeFits n
large_fits = fits

pub arrivals_rise : (n i : ℕ) → ArrivalsRise n i
arrivals_rise = rises
