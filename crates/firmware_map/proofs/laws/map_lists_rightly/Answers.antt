use Rattle.firmware_map.proofs.MapLaws.{map-lists-rightly}
use Rattle.firmware_map.proofs.laws.map_lists_rightly.Goals as goal

pub returns : goal.returns
returns c = map-lists-rightly
