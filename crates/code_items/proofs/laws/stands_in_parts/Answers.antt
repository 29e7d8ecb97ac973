use Rattle.code_items.proofs.StandLaws.{stands-parts}
use Rattle.code_items.proofs.laws.stands_in_parts.Goals as goal

pub returns : goal.returns
returns c = λ paged program marks p q xs ys below ends stands. stands-parts paged program marks p q xs ys below ends stands
