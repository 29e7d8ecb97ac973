use Rattle.core_steps.proofs.TiedLaws.{images_tied as its_law}
use Rattle.core_steps.proofs.laws.images_tied.Goals as goal

pub returns : goal.returns
returns c = its_law
