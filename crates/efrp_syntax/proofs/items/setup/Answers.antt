use Rattle.efrp_syntax.proofs.PhraseLaws.{fails_like, fails_first, fails_next, found_like, found_next, found_done}
use Rattle.efrp_syntax.proofs.ItemKindFacts.{exits}
use Rattle.efrp_syntax.proofs.ItemFacts.{setup_fits_1, setup_fits_2, setup_like}
use Rattle.efrp_syntax.proofs.items.setup.Goals as goal

pub returns-in_err-register : goal.returns-in_err-register
returns-in_err-register c = exits _ _ _ _ _ _ _ _ c.from_residual.ensures.1 (fails_like setup_like (fails_first setup_fits_1 c.in_err-register.ensures))

pub returns-in_err-byte : goal.returns-in_err-byte
returns-in_err-byte c =
    exits _ _ _ _ _ _ _ _ c.from_residual-in_err-byte.ensures.1 (fails_like setup_like (fails_next setup_fits_1 c.in_ok-register.ensures (fails_first (setup_fits_2 _) c.in_err-byte.ensures)))

pub returns : goal.returns
returns c =
    found_like setup_like (found_next setup_fits_1 c.in_ok-register.ensures (found_next (setup_fits_2 _) c.in_ok-byte.ensures (found_done _ _ _ _)))
