use Rattle.firmware_layout.proofs.WriteLaws.{layout-writes}
use Rattle.firmware_layout.proofs.laws.layout_writes.Goals as goal

pub returns : goal.returns
returns c = λ f program marks m. layout-writes f program marks m
