use Rattle.code_acts.proofs.EndLaws.{leaves}
use Rattle.code_acts.proofs.laws.leaves.Goals as goal

pub returns : goal.returns
returns c = leaves
