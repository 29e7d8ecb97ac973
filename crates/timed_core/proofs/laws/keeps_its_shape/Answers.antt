use Rattle.timed_core.proofs.ShapeLaws.{keeps_shape}
use Rattle.timed_core.proofs.laws.keeps_its_shape.Goals as goal

pub returns : goal.returns
returns c = λ p tale. keeps_shape p tale
