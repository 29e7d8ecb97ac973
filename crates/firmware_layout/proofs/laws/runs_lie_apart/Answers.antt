use Rattle.firmware_layout.proofs.StandLaws.{runs-lie-apart}
use Rattle.firmware_layout.proofs.laws.runs_lie_apart.Goals as goal

pub returns : goal.returns
returns c = λ f program marks event. runs-lie-apart f program marks event
