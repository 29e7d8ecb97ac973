use Rattle.firmware_layout.proofs.StandLaws.{each-run-stands}
use Rattle.firmware_layout.proofs.laws.each_run_stands.Goals as goal

pub returns : goal.returns
returns c = λ f program marks event. each-run-stands f program marks event
