use Rattle.map_file.proofs.EntryRowLaws.{one_text}
use Rattle.map_file.proofs.laws.one_map.Goals as goal

pub returns : goal.returns
returns c = one_text
