use Rattle.core_steps.proofs.TiedLaws.{stories_tied as its_law}
use Rattle.core_steps.proofs.laws.stories_tied.Goals as goal

pub returns : goal.returns
returns c = its_law
