use Rattle.timed_core.proofs.OnceLaws.{each_once}
use Rattle.timed_core.proofs.laws.treats_each_once.Goals as goal

pub returns : goal.returns
returns c = λ p tale. each_once p tale
