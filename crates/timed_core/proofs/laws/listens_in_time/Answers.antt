use Rattle.timed_core.proofs.OpenLaws.{listens}
use Rattle.timed_core.proofs.laws.listens_in_time.Goals as goal

pub returns : goal.returns
returns c = λ p tale off within. listens p tale off within
