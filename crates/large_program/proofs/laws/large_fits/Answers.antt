use Rattle.large_program.proofs.LargeLaws.{large_fits}
use Rattle.large_program.proofs.laws.large_fits.Goals as goal

pub returns : goal.returns
returns c = large_fits
