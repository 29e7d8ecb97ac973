use Rattle.priority_masks.proofs.LevelLaws.{levels-rise}
use Rattle.priority_masks.proofs.laws.levels_rise.Goals as goal

pub returns : goal.returns
returns c = levels-rise
