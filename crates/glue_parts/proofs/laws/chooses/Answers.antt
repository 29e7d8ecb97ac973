use Rattle.glue_parts.proofs.MakeLaws.{makes_choice}
use Rattle.glue_parts.proofs.laws.chooses.Goals as goal

pub returns : goal.returns
returns c = makes_choice
