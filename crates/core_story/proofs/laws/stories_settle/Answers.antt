use Rattle.core_story.proofs.ImageLaws.{stories_settle as its_law}
use Rattle.core_story.proofs.laws.stories_settle.Goals as goal

pub returns : goal.returns
returns c = its_law
