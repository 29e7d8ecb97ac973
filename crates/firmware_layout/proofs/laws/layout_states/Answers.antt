use Rattle.firmware_layout.proofs.StateLaws.{layout-states}
use Rattle.firmware_layout.proofs.laws.layout_states.Goals as goal

pub returns : goal.returns
returns c = λ f program marks m initial. layout-states f program marks m initial
