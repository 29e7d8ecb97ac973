use Rattle.efrp_types.proofs.NumberLaws.{numbers-agree}
use Rattle.efrp_types.proofs.laws.numbers_agree.Goals as goal

pub returns : goal.returns
returns c = numbers-agree
