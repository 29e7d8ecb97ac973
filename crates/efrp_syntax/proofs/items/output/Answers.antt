use Rattle.efrp_syntax.proofs.PhraseLaws.{fails_like, fails_first, fails_next, found_like, found_next, found_done}
use Rattle.efrp_syntax.proofs.ItemKindFacts.{exits}
use Rattle.efrp_syntax.proofs.ItemFacts.{output_fits_1, output_fits_2, output_fits_3, output_like}
use Rattle.efrp_syntax.proofs.items.output.Goals as goal

pub returns-in_err-port : goal.returns-in_err-port
returns-in_err-port c = exits _ _ _ _ _ _ _ _ c.from_residual.ensures.1 (fails_like output_like (fails_first output_fits_1 c.in_err-port.ensures))

pub returns-in_err-expr : goal.returns-in_err-expr
returns-in_err-expr c =
    exits _ _ _ _ _ _ _ _ c.from_residual-in_err-expr.ensures.1 (fails_like output_like (fails_next output_fits_1 c.in_ok-port.ensures (fails_first (output_fits_2 _) c.in_err-expr.ensures)))

pub returns-in_err-rest : goal.returns-in_err-rest
returns-in_err-rest c =
    exits _ _ _ _ _ _ _ _ c.from_residual-in_err-rest.ensures.1 (fails_like output_like (fails_next output_fits_1 c.in_ok-port.ensures (fails_next (output_fits_2 _) c.in_ok-expr.ensures (fails_first (output_fits_3 _ _) c.in_err-rest.ensures))))

pub returns : goal.returns
returns c =
    found_like output_like (found_next output_fits_1 c.in_ok-port.ensures (found_next (output_fits_2 _) c.in_ok-expr.ensures (found_next (output_fits_3 _ _) c.in_ok-rest.ensures (found_done _ _ _ _))))
