use Rattle.large_program.proofs.LargeLaws.{prints_well}
use Rattle.large_program.proofs.laws.prints_well.Goals as goal

pub returns : goal.returns
returns c = prints_well
