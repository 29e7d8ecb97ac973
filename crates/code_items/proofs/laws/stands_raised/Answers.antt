use Rattle.code_items.proofs.StandLaws.{stands-raised}
use Rattle.code_items.proofs.laws.stands_raised.Goals as goal

pub returns : goal.returns
returns c = λ paged program marks up p q items stands. stands-raised paged program marks up p q items stands
