use Rattle.efrp_meaning.proofs.MeaningLaws.{value_on-solves}
use Rattle.efrp_meaning.proofs.laws.solves.Goals as goal

pub returns : goal.returns
returns c = λ p s j event x k n d is found. value_on-solves p s j event k x n d is found
