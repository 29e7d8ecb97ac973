use Rattle.std.proofs.Common.{None, false}
use Rattle.code_acts.proofs.RunLaws.{run_like}
use Rattle.code_acts.proofs.laws.run_like.Goals as goal

pub returns : goal.returns
returns c = λ uses writes acts s t sounds like pending. run_like uses writes None false acts s t sounds like pending
