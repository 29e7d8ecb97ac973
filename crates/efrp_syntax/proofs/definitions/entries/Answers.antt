use Rattle.std.proofs.Common.{ap, ◌+◌}
use Rattle.efrp_syntax.proofs.PhraseLaws.{out_of_memory}
use Rattle.efrp_syntax.proofs.ItemKindFacts.{exits}
use Rattle.efrp_syntax.proofs.DefinitionFacts.{entries_start, entries_next, entries_stop, entries_all, entry_shorter}
use Rattle.efrp_syntax.proofs.definitions.entries.Goals as goal

pub row-init : goal.row-init
row-init c = rw (c.in_ok-push.ensures.ok, c.new-found.ensures) (entries_start _ _ _)

pub returns-in_err-push : goal.returns-in_err-push
returns-in_err-push c = out_of_memory _ _ _ _ _ _ _ c.from_residual.ensures.1

pub returns-in_err-push-2 : goal.returns-in_err-push-2
returns-in_err-push-2 c = out_of_memory _ _ _ _ _ _ _ c.from_residual-in_err-push-2.ensures.1

pub returns-in_err-entry : goal.returns-in_err-entry
returns-in_err-entry c = exits _ _ _ _ _ _ _ _ c.from_residual-in_err-entry.ensures.1 (entries_stop _ _ (ap (λ n. n + 1) c.len.ensures) c.row.invariant c.row-test.ensures c.in_err-entry.ensures)

pub row-smaller : goal.row-smaller
row-smaller c = entry_shorter c.in_ok-entry.ensures

pub row-preserved : goal.row-preserved
row-preserved c = rw (c.in_ok-push-2.ensures.ok) (entries_next _ _ (ap (λ n. n + 1) c.len.ensures) c.row.invariant c.row-test.ensures c.in_ok-entry.ensures)

pub returns : goal.returns
returns c = entries_all c.row.invariant c.row-test.ensures
