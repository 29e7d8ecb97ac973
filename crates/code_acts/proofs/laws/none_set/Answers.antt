use Rattle.code_acts.proofs.CodeLaws.{sets_none}
use Rattle.code_acts.proofs.laws.none_set.Goals as goal

pub returns : goal.returns
returns c = sets_none
