use Rattle.firmware_layout.proofs.StateLaws.{layout-arranged}
use Rattle.firmware_layout.proofs.laws.layout_arranged.Goals as goal

pub returns : goal.returns
returns c = λ f program marks m initial. layout-arranged f program marks m initial
