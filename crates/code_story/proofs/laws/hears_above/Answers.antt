use Rattle.code_story.proofs.ChipFacts.{hears_above}
use Rattle.code_story.proofs.laws.hears_above.Goals as goal

pub returns : goal.returns
returns c = λ l level d x enables is_level at_level above. hears_above l enables level d is_level at_level x above
