use Rattle.firmware_map.proofs.MapLaws.{map-names-items}
use Rattle.firmware_map.proofs.laws.map_names_items.Goals as goal

pub returns : goal.returns
returns c = map-names-items
