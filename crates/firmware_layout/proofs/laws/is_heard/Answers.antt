use Rattle.firmware_layout.proofs.HeardLaws.{is_heard}
use Rattle.firmware_layout.proofs.laws.is_heard.Goals as goal

pub returns : goal.returns
returns c = λ p level. is_heard p level
