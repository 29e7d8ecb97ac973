use Rattle.firmware_layout.proofs.EnableLaws.{layout-enables}
use Rattle.firmware_layout.proofs.laws.layout_enables.Goals as goal

pub returns : goal.returns
returns c = λ f program marks m. layout-enables f program marks m
