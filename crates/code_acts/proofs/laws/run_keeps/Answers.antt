use Rattle.std.proofs.Common.{None, false}
use Rattle.code_acts.proofs.RunLaws.{run_keeps}
use Rattle.code_acts.proofs.laws.run_keeps.Goals as goal

pub returns : goal.returns
returns c = λ uses writes acts s n sounds missed. run_keeps uses writes None false acts s n sounds missed
