use Rattle.std.proofs.Common.{sym, subst}
use Rattle.std.specs.List.{AllByRecursion}
use Rattle.code_items.specs.Items.{ItemFits, OnceEach}
use Rattle.code_tests.proofs.FourPagesFacts.{pages-fit, pages-once}
use Rattle.code_tests.proofs.layout_tests.laid_on_four_pages.Goals as goal

pub layout-requires-clause-fit : goal.layout-requires-clause-fit
layout-requires-clause-fit c = subst (AllByRecursion ItemFits) (sym c.in_ok-items.ensures) (pages-fit c.args.gap)

pub layout-requires-clause-once : goal.layout-requires-clause-once
layout-requires-clause-once c = subst OnceEach (sym c.in_ok-items.ensures) (pages-once c.args.gap)
