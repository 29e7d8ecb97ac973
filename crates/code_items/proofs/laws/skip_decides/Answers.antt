use Rattle.code_items.proofs.JumpLaws.{skip_decides_at}
use Rattle.code_items.proofs.laws.skip_decides.Goals as goal

pub returns : goal.returns
returns c = λ paged program marks piece p q m i test items x. skip_decides_at paged program marks piece p q m i test items x
