use Rattle.glue_steps.specs.Laws.{StillIn, Passes}
use Rattle.glue_steps.proofs.TellsLaws.{tells_longer}
use Rattle.glue_steps.proofs.laws.may_take_longer.Goals as goal

pub returns : goal.returns
returns c = λ program glue test. tells_longer program (StillIn program glue) (Passes test)
