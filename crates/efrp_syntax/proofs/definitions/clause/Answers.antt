use Rattle.efrp_syntax.proofs.PhraseLaws.{fails_like, fails_first, fails_next, found_like, found_next, found_done}
use Rattle.efrp_syntax.proofs.ItemKindFacts.{exits}
use Rattle.efrp_syntax.proofs.DefinitionFacts.{clause_fits_1, clause_fits_2, clause_fits_3, clause_fits_4, clause_fits_5, clause_like}
use Rattle.efrp_syntax.proofs.definitions.clause.Goals as goal

pub returns-in_err-event : goal.returns-in_err-event
returns-in_err-event c = exits _ _ _ _ _ _ _ _ c.from_residual.ensures.1 (fails_like clause_like (fails_first clause_fits_1 c.in_err-event.ensures))

pub returns-in_err-rest : goal.returns-in_err-rest
returns-in_err-rest c =
    exits _ _ _ _ _ _ _ _ c.from_residual-in_err-rest.ensures.1 (fails_like clause_like (fails_next clause_fits_1 c.in_ok-event.ensures (fails_first (clause_fits_2 _) c.in_err-rest.ensures)))

pub returns-in_err-expr : goal.returns-in_err-expr
returns-in_err-expr c =
    exits _ _ _ _ _ _ _ _ c.from_residual-in_err-expr.ensures.1 (fails_like clause_like (fails_next clause_fits_1 c.in_ok-event.ensures (fails_next (clause_fits_2 _) c.in_ok-rest.ensures (fails_first (clause_fits_3 _) c.in_err-expr.ensures))))

pub returns-in_err-later : goal.returns-in_err-later
returns-in_err-later c =
    exits _ _ _ _ _ _ _ _ c.from_residual-in_err-later.ensures.1 (fails_like clause_like (fails_next clause_fits_1 c.in_ok-event.ensures (fails_next (clause_fits_2 _) c.in_ok-rest.ensures (fails_next (clause_fits_3 _) c.in_ok-expr.ensures (fails_first (clause_fits_4 _ _) c.in_err-later.ensures)))))

pub returns-in_err-rest-2 : goal.returns-in_err-rest-2
returns-in_err-rest-2 c =
    exits _ _ _ _ _ _ _ _ c.from_residual-in_err-rest-2.ensures.1 (fails_like clause_like (fails_next clause_fits_1 c.in_ok-event.ensures (fails_next (clause_fits_2 _) c.in_ok-rest.ensures (fails_next (clause_fits_3 _) c.in_ok-expr.ensures (fails_next (clause_fits_4 _ _) c.in_ok-later.ensures (fails_first (clause_fits_5 _ _ _) c.in_err-rest-2.ensures))))))

pub returns : goal.returns
returns c =
    found_like clause_like (found_next clause_fits_1 c.in_ok-event.ensures (found_next (clause_fits_2 _) c.in_ok-rest.ensures (found_next (clause_fits_3 _) c.in_ok-expr.ensures (found_next (clause_fits_4 _ _) c.in_ok-later.ensures (found_next (clause_fits_5 _ _ _) c.in_ok-rest-2.ensures (found_done _ _ _ _))))))
