use Rattle.code_acts.proofs.EndLaws.{ends_anywhere}
use Rattle.code_acts.proofs.laws.ends_anywhere.Goals as goal

pub returns : goal.returns
returns c = ends_anywhere
