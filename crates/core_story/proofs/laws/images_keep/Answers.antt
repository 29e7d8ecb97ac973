use Rattle.core_story.proofs.ImageLaws.{images_keep as its_law}
use Rattle.core_story.proofs.laws.images_keep.Goals as goal

pub returns : goal.returns
returns c = its_law
