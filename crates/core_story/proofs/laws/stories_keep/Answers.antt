use Rattle.core_story.proofs.ImageLaws.{stories_keep as its_law}
use Rattle.core_story.proofs.laws.stories_keep.Goals as goal

pub returns : goal.returns
returns c = its_law
