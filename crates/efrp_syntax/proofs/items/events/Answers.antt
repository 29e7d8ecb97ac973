use Rattle.std.proofs.Common.{codes}
use Rattle.frp_tree.specs.Grammar.{SpellsEvent}
use Rattle.efrp_syntax.specs.Items.{StartsWord}
use Rattle.efrp_syntax.proofs.PhraseLaws.{out_of_memory}
use Rattle.efrp_syntax.proofs.ItemKindFacts.{exits, read_start, read_next, read_stop, read_all, read_shorter}
use Rattle.efrp_syntax.proofs.ItemFacts.{events_begin}
use Rattle.efrp_syntax.proofs.items.events.Goals as goal

pub row-init : goal.row-init
row-init c = rw (c.new-found.ensures) (read_start SpellsEvent (StartsWord (codes "event")) _ _)

pub returns-in_err-event : goal.returns-in_err-event
returns-in_err-event c = exits _ _ _ _ _ _ _ _ c.from_residual.ensures.1 (read_stop _ c.row.invariant c.row-test.ensures c.in_err-event.ensures)

pub returns-in_err-push : goal.returns-in_err-push
returns-in_err-push c = out_of_memory _ _ _ _ _ _ _ c.from_residual-in_err-push.ensures.1

pub row-smaller : goal.row-smaller
row-smaller c = read_shorter (StartsWord (codes "event")) events_begin (λ h. cc) c.in_ok-event.ensures

pub row-preserved : goal.row-preserved
row-preserved c =
    rw (c.in_ok-push.ensures.ok) (read_next _ c.row.invariant c.row-test.ensures c.in_ok-event.ensures)

pub returns : goal.returns
returns c = read_all events_begin c.row.invariant c.row-test.ensures
