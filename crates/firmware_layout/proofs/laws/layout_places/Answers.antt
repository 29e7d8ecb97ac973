use Rattle.firmware_layout.proofs.PlaceLaws.{layout-places}
use Rattle.firmware_layout.proofs.laws.layout_places.Goals as goal

pub returns : goal.returns
returns c = λ f program marks m. layout-places f program marks m
