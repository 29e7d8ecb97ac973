use Rattle.std.proofs.Common.{◌≡◌, ◌<◌, ap, subst, sym, ◌∙◌, get_or, length}
use Rattle.frp_tree.specs.Tree.{program_tree_of}
use Rattle.causality.proofs.EventFacts.{Begun, one-more-begun, refused-so}
use Rattle.causality.proofs.checks.all_orders.Goals as goal

pub returns-in_err-order_on : goal.returns-in_err-order_on
returns-in_err-order_on c =
    let same : c.as_slice-events.result.now ≡ c.args.t.now.program.events = c.as_slice-events.ensures ∙ ap (λ q. q.events) c.program.ensures in
    let is = c.index-events-i.is ∙ ap (λ es. get_or es c.loop-i.i c.index-events-i.result) same in
    let less = subst (λ es. c.loop-i.i < length es) same c.loop-i-test.true in
    refused-so (program_tree_of c.args.t.now.program) c.loop-i.i c.loop-i.orders c.loop-i.invariant c.index-events-i.result less is
    _ c.from_residual.result c.from_residual.ensures.1 c.in_err-order_on.ensures

pub loop-i-preserved : goal.loop-i-preserved
loop-i-preserved c =
    let p = program_tree_of c.args.t.now.program in
    let same : c.as_slice-events.result.now ≡ c.args.t.now.program.events = c.as_slice-events.ensures ∙ ap (λ q. q.events) c.program.ensures in
    let is = c.index-events-i.is ∙ ap (λ es. get_or es c.loop-i.i c.index-events-i.result) same in
    let less = subst (λ es. c.loop-i.i < length es) same c.loop-i-test.true in
    subst (Begun p _) (sym c.in_ok-push.ensures.ok)
    (one-more-begun p c.loop-i.i c.loop-i.orders c.loop-i.invariant c.index-events-i.result less is c.in_ok-order_on.field-0 c.in_ok-order_on.ensures)
