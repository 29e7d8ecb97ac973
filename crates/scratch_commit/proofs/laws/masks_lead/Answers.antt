use Rattle.scratch_commit.proofs.EnableLaws.{masks_lead}
use Rattle.scratch_commit.proofs.laws.masks_lead.Goals as goal

pub returns : goal.returns
returns c = λ p low level heard other r are is_other below hold. masks_lead p low level heard other are is_other below r hold
