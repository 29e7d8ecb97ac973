use Rattle.std.proofs.Common.{◌≡◌, ◌++◌}
use Rattle.product_templates.specs.Templates.{repeated}
use Rattle.product_templates.proofs.templates.add_repeated.Given as goal

abbrev pub invariant-loop : goal.invariant-loop
invariant-loop l = l.acts.items ≡ l.fn.acts.items ++ repeated l.counter l.turn
