use Rattle.product_templates.proofs.EachFacts.{core_each}
use Rattle.product_templates.proofs.laws.core_does.Goals as goal

pub returns : goal.returns
returns c = core_each
