use Rattle.code_items.proofs.JumpLaws.{jump_arrives_at}
use Rattle.code_items.proofs.laws.jump_arrives.Goals as goal

pub returns : goal.returns
returns c = λ paged program marks piece p q m items x. jump_arrives_at paged program marks piece p q m items x
