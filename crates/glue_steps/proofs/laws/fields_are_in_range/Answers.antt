use Rattle.glue_steps.proofs.LineLaws.{fields_fit}
use Rattle.glue_steps.proofs.laws.fields_are_in_range.Goals as goal

pub returns : goal.returns
returns c = λ line fit. fields_fit line fit
