use Rattle.std.proofs.Common.{sym, subst, ◌∙◌}
use Rattle.code_items.specs.Items.{OnceEach}
use Rattle.code_tests.proofs.FourPagesFacts.{nops-once}
use Rattle.code_tests.proofs.layout_tests.laid_nops.Goals as goal

pub layout-requires-clause-once : goal.layout-requires-clause-once
layout-requires-clause-once c = subst OnceEach (sym (c.from_vec-items.ensures ∙ c.in_ok-nops.ensures)) (nops-once c.args.number)
