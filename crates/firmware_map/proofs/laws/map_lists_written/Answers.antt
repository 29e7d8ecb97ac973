use Rattle.firmware_map.proofs.MapLaws.{map-lists-written}
use Rattle.firmware_map.proofs.laws.map_lists_written.Goals as goal

pub returns : goal.returns
returns c = map-lists-written
