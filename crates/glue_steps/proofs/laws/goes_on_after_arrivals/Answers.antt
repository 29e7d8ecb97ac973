use Rattle.glue_steps.specs.Laws.{StillIn, Passes}
use Rattle.glue_steps.proofs.TellsLaws.{tells_moves}
use Rattle.glue_steps.proofs.laws.goes_on_after_arrivals.Goals as goal

pub returns : goal.returns
returns c = λ program glue test puts k c d stays alone told. tells_moves program (StillIn program glue) (Passes test) stays puts k c d alone told
