use Rattle.firmware_map.proofs.MapLaws.{map-reports-few}
use Rattle.firmware_map.proofs.laws.map_reports_few.Goals as goal

pub returns : goal.returns
returns c = map-reports-few
