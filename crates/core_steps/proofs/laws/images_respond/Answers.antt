use Rattle.core_steps.proofs.AccountLaws.{images_respond as its_law}
use Rattle.core_steps.proofs.laws.images_respond.Goals as goal

pub returns : goal.returns
returns c = its_law
