use Rattle.glue_parts.proofs.MakeLaws.{blind_after}
use Rattle.glue_parts.proofs.laws.blind_both.Goals as goal

pub returns : goal.returns
returns c = blind_after
