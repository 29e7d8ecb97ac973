use Rattle.code_acts.proofs.PartLaws.{stand_of_items}
use Rattle.code_acts.proofs.laws.items_stand.Goals as goal

pub returns : goal.returns
returns c = stand_of_items
