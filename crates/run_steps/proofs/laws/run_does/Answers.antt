use Rattle.run_steps.proofs.RunLaws.{run_does}
use Rattle.run_steps.proofs.laws.run_does.Goals as goal

pub returns : goal.returns
returns c = run_does
