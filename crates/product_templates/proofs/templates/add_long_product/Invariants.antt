use Rattle.std.proofs.Common.{◌≡◌, ◌++◌}
use Rattle.product_templates.proofs.EmittingFacts.{long_so_far}
use Rattle.product_templates.proofs.templates.add_long_product.Given as goal

abbrev pub invariant-loop-i : goal.invariant-loop-i
invariant-loop-i l = l.acts.items ≡ l.fn.acts.items ++ long_so_far l.i
