use Rattle.efrp_syntax.proofs.PhraseLaws.{fails_first, fails_next, found_next, found_done}
use Rattle.efrp_syntax.proofs.ItemKindFacts.{exits}
use Rattle.efrp_syntax.proofs.DefinitionFacts.{reactive_fits_1, reactive_fits_2, reactive_fits_3, reactive_fits_4, reactive_fits_5, reactive_fits_6}
use Rattle.efrp_syntax.proofs.definitions.reactive.Goals as goal

pub returns-in_err-rest : goal.returns-in_err-rest
returns-in_err-rest c = exits _ _ _ _ _ _ _ _ c.from_residual.ensures.1 (fails_first reactive_fits_1 c.in_err-rest.ensures)

pub returns-in_err-init : goal.returns-in_err-init
returns-in_err-init c = exits _ _ _ _ _ _ _ _ c.from_residual-in_err-init.ensures.1 (fails_next reactive_fits_1 c.in_ok-rest.ensures (fails_first reactive_fits_2 c.in_err-init.ensures))

pub returns-in_err-rest-2 : goal.returns-in_err-rest-2
returns-in_err-rest-2 c = exits _ _ _ _ _ _ _ _ c.from_residual-in_err-rest-2.ensures.1 (fails_next reactive_fits_1 c.in_ok-rest.ensures (fails_next reactive_fits_2 c.in_ok-init.ensures (fails_first (reactive_fits_3 _) c.in_err-rest-2.ensures)))

pub returns-in_err-rest-3 : goal.returns-in_err-rest-3
returns-in_err-rest-3 c = exits _ _ _ _ _ _ _ _ c.from_residual-in_err-rest-3.ensures.1 (fails_next reactive_fits_1 c.in_ok-rest.ensures (fails_next reactive_fits_2 c.in_ok-init.ensures (fails_next (reactive_fits_3 _) c.in_ok-rest-2.ensures (fails_first (reactive_fits_4 _) c.in_err-rest-3.ensures))))

pub returns-in_err-clauses : goal.returns-in_err-clauses
returns-in_err-clauses c = exits _ _ _ _ _ _ _ _ c.from_residual-in_err-clauses.ensures.1 (fails_next reactive_fits_1 c.in_ok-rest.ensures (fails_next reactive_fits_2 c.in_ok-init.ensures (fails_next (reactive_fits_3 _) c.in_ok-rest-2.ensures (fails_next (reactive_fits_4 _) c.in_ok-rest-3.ensures (fails_first (reactive_fits_5 _) c.in_err-clauses.ensures)))))

pub returns-in_err-rest-4 : goal.returns-in_err-rest-4
returns-in_err-rest-4 c = exits _ _ _ _ _ _ _ _ c.from_residual-in_err-rest-4.ensures.1 (fails_next reactive_fits_1 c.in_ok-rest.ensures (fails_next reactive_fits_2 c.in_ok-init.ensures (fails_next (reactive_fits_3 _) c.in_ok-rest-2.ensures (fails_next (reactive_fits_4 _) c.in_ok-rest-3.ensures (fails_next (reactive_fits_5 _) c.in_ok-clauses.ensures (fails_first (reactive_fits_6 _ _) c.in_err-rest-4.ensures))))))

pub returns : goal.returns
returns c = found_next reactive_fits_1 c.in_ok-rest.ensures (found_next reactive_fits_2 c.in_ok-init.ensures (found_next (reactive_fits_3 _) c.in_ok-rest-2.ensures (found_next (reactive_fits_4 _) c.in_ok-rest-3.ensures (found_next (reactive_fits_5 _) c.in_ok-clauses.ensures (found_next (reactive_fits_6 _ _) c.in_ok-rest-4.ensures (found_done _ _ _ _))))))
