use Rattle.large_program.proofs.LargeLaws.{large_passes}
use Rattle.large_program.proofs.laws.large_passes.Goals as goal

pub returns : goal.returns
returns c = large_passes
