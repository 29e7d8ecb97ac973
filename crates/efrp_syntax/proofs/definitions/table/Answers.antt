use Rattle.efrp_syntax.proofs.PhraseLaws.{fails_first, fails_next, found_next, found_done}
use Rattle.efrp_syntax.proofs.ItemKindFacts.{exits}
use Rattle.efrp_syntax.proofs.DefinitionFacts.{table_fits_1, table_fits_2, table_fits_3, table_fits_4, table_fits_5}
use Rattle.efrp_syntax.proofs.definitions.table.Goals as goal

pub returns-in_err-rest : goal.returns-in_err-rest
returns-in_err-rest c = exits _ _ _ _ _ _ _ _ c.from_residual.ensures.1 (fails_first table_fits_1 c.in_err-rest.ensures)

pub returns-in_err-rest-2 : goal.returns-in_err-rest-2
returns-in_err-rest-2 c = exits _ _ _ _ _ _ _ _ c.from_residual-in_err-rest-2.ensures.1 (fails_next table_fits_1 c.in_ok-rest.ensures (fails_first table_fits_2 c.in_err-rest-2.ensures))

pub returns-in_err-first : goal.returns-in_err-first
returns-in_err-first c = exits _ _ _ _ _ _ _ _ c.from_residual-in_err-first.ensures.1 (fails_next table_fits_1 c.in_ok-rest.ensures (fails_next table_fits_2 c.in_ok-rest-2.ensures (fails_first table_fits_3 c.in_err-first.ensures)))

pub returns-in_err-entries : goal.returns-in_err-entries
returns-in_err-entries c = exits _ _ _ _ _ _ _ _ c.from_residual-in_err-entries.ensures.1 (fails_next table_fits_1 c.in_ok-rest.ensures (fails_next table_fits_2 c.in_ok-rest-2.ensures (fails_next table_fits_3 c.in_ok-first.ensures (fails_first (table_fits_4 _) c.in_err-entries.ensures))))

pub returns-in_err-rest-3 : goal.returns-in_err-rest-3
returns-in_err-rest-3 c = exits _ _ _ _ _ _ _ _ c.from_residual-in_err-rest-3.ensures.1 (fails_next table_fits_1 c.in_ok-rest.ensures (fails_next table_fits_2 c.in_ok-rest-2.ensures (fails_next table_fits_3 c.in_ok-first.ensures (fails_next (table_fits_4 _) c.in_ok-entries.ensures (fails_first (table_fits_5 _) c.in_err-rest-3.ensures)))))

pub returns : goal.returns
returns c = found_next table_fits_1 c.in_ok-rest.ensures (found_next table_fits_2 c.in_ok-rest-2.ensures (found_next table_fits_3 c.in_ok-first.ensures (found_next (table_fits_4 _) c.in_ok-entries.ensures (found_next (table_fits_5 _) c.in_ok-rest-3.ensures (found_done _ _ _ _)))))
