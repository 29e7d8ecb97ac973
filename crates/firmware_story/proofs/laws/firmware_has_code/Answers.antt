use Rattle.firmware_story.proofs.CodeLaws.{firmware-has-code}
use Rattle.firmware_story.proofs.laws.firmware_has_code.Goals as goal

pub returns : goal.returns
returns c = firmware-has-code
