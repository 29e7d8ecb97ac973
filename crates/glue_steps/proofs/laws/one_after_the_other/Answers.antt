use Rattle.glue_steps.specs.Laws.{StillIn, Passes}
use Rattle.glue_steps.proofs.TellsLaws.{tells_then}
use Rattle.glue_steps.proofs.laws.one_after_the_other.Goals as goal

pub returns : goal.returns
returns c = λ program glue first second. tells_then program (StillIn program glue) (Passes first) (Passes second)
