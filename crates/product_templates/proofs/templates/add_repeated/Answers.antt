use Rattle.std.proofs.Common.{arith}
use Rattle.std.proofs.lemmas.Grind.{common_steps}
use Rattle.product_templates.proofs.EmittingFacts.{repeated-next}
use Rattle.product_templates.proofs.templates.add_repeated.Goals as goal

pub loop-preserved : goal.loop-preserved
loop-preserved c = grind (arith, common_steps, repeated-next)
