use Rattle.frp_tree.specs.Tree.{Input}
use Rattle.efrp_syntax.proofs.PhraseLaws.{fails_first, fails_next, found_next, found_done}
use Rattle.efrp_syntax.proofs.ItemKindFacts.{exits, some_done, some_seq, fits_any}
use Rattle.efrp_syntax.proofs.ItemFacts.{some_name}
use Rattle.efrp_syntax.proofs.definitions.input.Goals as goal

pub returns-in_err-rest : goal.returns-in_err-rest
returns-in_err-rest c = exits _ _ _ _ _ _ _ _ c.from_residual.ensures.1 (fails_first (fits_any (λ u. some_seq some_name (λ x. some_done (Input x)))) c.in_err-rest.ensures)

pub returns-in_err-port : goal.returns-in_err-port
returns-in_err-port c = exits _ _ _ _ _ _ _ _ c.from_residual-in_err-port.ensures.1 (fails_next (fits_any (λ u. some_seq some_name (λ x. some_done (Input x)))) c.in_ok-rest.ensures (fails_first (fits_any (λ x. some_done (Input x))) c.in_err-port.ensures))

pub returns : goal.returns
returns c = found_next (fits_any (λ u. some_seq some_name (λ x. some_done (Input x)))) c.in_ok-rest.ensures (found_next (fits_any (λ x. some_done (Input x))) c.in_ok-port.ensures (found_done _ _ _ _))
