use Rattle.firmware_map.proofs.MapLaws.{map-keeps-rules}
use Rattle.firmware_map.proofs.laws.map_keeps_rules.Goals as goal

pub returns : goal.returns
returns c = map-keeps-rules
