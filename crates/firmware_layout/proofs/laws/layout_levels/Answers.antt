use Rattle.firmware_layout.proofs.LevelLaws.{layout-levels}
use Rattle.firmware_layout.proofs.laws.layout_levels.Goals as goal

pub returns : goal.returns
returns c = λ f program marks m. layout-levels f program marks m
