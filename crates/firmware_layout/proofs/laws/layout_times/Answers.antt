use Rattle.firmware_layout.proofs.StateLaws.{layout-times}
use Rattle.firmware_layout.proofs.laws.layout_times.Goals as goal

pub returns : goal.returns
returns c = λ f marks m. layout-times f marks m
