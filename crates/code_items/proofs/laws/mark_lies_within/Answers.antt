use Rattle.code_items.proofs.StandLaws.{mark-between}
use Rattle.code_items.proofs.laws.mark_lies_within.Goals as goal

pub returns : goal.returns
returns c = λ paged program marks p q m xs ys below ends top word stands. mark-between paged program marks p q m xs ys below ends top word stands
