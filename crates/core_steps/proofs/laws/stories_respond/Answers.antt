use Rattle.core_steps.proofs.AccountLaws.{stories_respond as its_law}
use Rattle.core_steps.proofs.laws.stories_respond.Goals as goal

pub returns : goal.returns
returns c = its_law
