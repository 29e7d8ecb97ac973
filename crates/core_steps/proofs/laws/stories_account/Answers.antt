use Rattle.core_steps.proofs.AccountLaws.{stories_account as its_law}
use Rattle.core_steps.proofs.laws.stories_account.Goals as goal

pub returns : goal.returns
returns c = its_law
