use Rattle.std.proofs.Common.{None, false}
use Rattle.code_acts.proofs.CodeLaws.{skips_well}
use Rattle.code_acts.proofs.laws.skips_well.Goals as goal

pub returns : goal.returns
returns c = λ uses writes place bank acts sounds. skips_well uses writes place None false bank acts sounds tt
