use Rattle.firmware_layout.proofs.StandLaws.{vector-of-code-stands}
use Rattle.firmware_layout.proofs.laws.vector_of_code_stands.Goals as goal

pub returns : goal.returns
returns c = λ f program marks. vector-of-code-stands f program marks
