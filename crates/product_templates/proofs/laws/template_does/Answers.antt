use Rattle.product_templates.proofs.EachFacts.{template_each}
use Rattle.product_templates.proofs.laws.template_does.Goals as goal

pub returns : goal.returns
returns c = template_each
