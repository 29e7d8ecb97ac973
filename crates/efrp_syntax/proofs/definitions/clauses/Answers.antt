use Rattle.frp_tree.specs.Grammar.{SpellsClause}
use Rattle.frp_tree.specs.Tree.{clause_of}
use Rattle.efrp_syntax.specs.Items.{StartsName}
use Rattle.efrp_syntax.proofs.PhraseLaws.{out_of_memory, map_append}
use Rattle.efrp_syntax.proofs.ItemKindFacts.{exits, read_start, read_next, read_stop, read_all, read_shorter}
use Rattle.efrp_syntax.proofs.DefinitionFacts.{clauses_begin, no_name_here}
use Rattle.efrp_syntax.proofs.definitions.clauses.Goals as goal

pub row-init : goal.row-init
row-init c = rw (c.new-found.ensures) (read_start SpellsClause StartsName _ _)

pub returns-in_err-clause : goal.returns-in_err-clause
returns-in_err-clause c = exits _ _ _ _ _ _ _ _ c.from_residual.ensures.1 (read_stop _ c.row.invariant c.row-test.ensures c.in_err-clause.ensures)

pub returns-in_err-push : goal.returns-in_err-push
returns-in_err-push c = out_of_memory _ _ _ _ _ _ _ c.from_residual-in_err-push.ensures.1

pub row-smaller : goal.row-smaller
row-smaller c = read_shorter StartsName clauses_begin no_name_here c.in_ok-clause.ensures

pub row-preserved : goal.row-preserved
row-preserved c = rw (c.in_ok-push.ensures.ok, map_append clause_of) (read_next _ c.row.invariant c.row-test.ensures c.in_ok-clause.ensures)

pub returns : goal.returns
returns c = read_all clauses_begin c.row.invariant c.row-test.ensures
