use Rattle.std.proofs.Common.{ap, subst, sym, ◌∙◌, arith, get_or}
use Rattle.frp_tree.specs.Tree.{program_tree_of}
use Rattle.efrp_types.specs.Numbers.{event_name}
use Rattle.causality.specs.Orders.{IsOrder}
use Rattle.causality.proofs.GraphFacts.{list-at}
use Rattle.causality.proofs.checked.Checked.order.Goals as goal

pub returns : goal.returns
returns c =
    let orders = c.args.self.now.orders in
    let is = c.index-as_slice-event.is ∙ ap (λ os. get_or os c.args.event c.index-as_slice-event.result) c.as_slice.ensures in
    let less = c.requires in
    let same = c.args.self.now.events in
    let p = program_tree_of c.args.self.now.typed.program in
    subst (IsOrder p (event_name p c.args.event)) (sym (list-at orders c.args.event _ _ (omega (arith, less, same)) is c.as_slice-2.ensures))
    (c.args.self.now.ordered c.args.event less)
