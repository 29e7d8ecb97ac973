use Rattle.product_templates.proofs.SoundFacts.{short_each}
use Rattle.product_templates.proofs.laws.are_short.Goals as goal

pub returns : goal.returns
returns c = short_each
