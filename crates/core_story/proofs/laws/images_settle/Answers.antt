use Rattle.core_story.proofs.ImageLaws.{images_settle as its_law}
use Rattle.core_story.proofs.laws.images_settle.Goals as goal

pub returns : goal.returns
returns c = its_law
