use Rattle.firmware_story.proofs.RunLaws.{run-is_in}
use Rattle.firmware_story.proofs.laws.run_is_in.Goals as goal

pub returns : goal.returns
returns c = run-is_in
