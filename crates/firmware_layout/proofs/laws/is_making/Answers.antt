use Rattle.firmware_layout.proofs.MadeLaws.{is_making}
use Rattle.firmware_layout.proofs.laws.is_making.Goals as goal

pub returns : goal.returns
returns c = λ f. is_making f
