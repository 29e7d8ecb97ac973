use Rattle.std.proofs.Common.{None, false}
use Rattle.code_acts.proofs.CodeLaws.{instrs_fit}
use Rattle.code_acts.proofs.laws.instructions_fit.Goals as goal

pub returns : goal.returns
returns c = λ uses writes place bank acts placed sounds. instrs_fit uses writes place placed None false bank acts sounds
