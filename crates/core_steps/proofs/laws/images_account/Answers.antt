use Rattle.core_steps.proofs.AccountLaws.{images_account as its_law}
use Rattle.core_steps.proofs.laws.images_account.Goals as goal

pub returns : goal.returns
returns c = its_law
