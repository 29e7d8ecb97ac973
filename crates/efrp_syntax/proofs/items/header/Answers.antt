use Rattle.efrp_syntax.proofs.PhraseLaws.{fails_first, fails_next, found_next, found_done}
use Rattle.efrp_syntax.proofs.ItemKindFacts.{exits, some_tok, some_done, some_seq, fits_any}
use Rattle.efrp_syntax.proofs.ItemFacts.{some_name}
use Rattle.efrp_syntax.proofs.items.header.Goals as goal

pub returns-in_err-rest : goal.returns-in_err-rest
returns-in_err-rest c =
    exits _ _ _ _ _ _ _ _ c.from_residual.ensures.1 (fails_first (fits_any (λ u. some_seq some_name (λ x. some_seq (some_tok _) (λ v. some_done x)))) c.in_err-rest.ensures)

pub returns-in_err-name : goal.returns-in_err-name
returns-in_err-name c =
    exits _ _ _ _ _ _ _ _ c.from_residual-in_err-name.ensures.1 (fails_next (fits_any (λ u. some_seq some_name (λ x. some_seq (some_tok _) (λ v. some_done x)))) c.in_ok-rest.ensures (fails_first (fits_any (λ x. some_seq (some_tok _) (λ v. some_done x))) c.in_err-name.ensures))

pub returns-in_err-rest-2 : goal.returns-in_err-rest-2
returns-in_err-rest-2 c =
    exits _ _ _ _ _ _ _ _ c.from_residual-in_err-rest-2.ensures.1 (fails_next (fits_any (λ u. some_seq some_name (λ x. some_seq (some_tok _) (λ v. some_done x)))) c.in_ok-rest.ensures (fails_next (fits_any (λ x. some_seq (some_tok _) (λ v. some_done x))) c.in_ok-name.ensures (fails_first (fits_any (λ v. some_done _)) c.in_err-rest-2.ensures)))

pub returns : goal.returns
returns c =
    found_next (fits_any (λ u. some_seq some_name (λ x. some_seq (some_tok _) (λ v. some_done x)))) c.in_ok-rest.ensures (found_next (fits_any (λ x. some_seq (some_tok _) (λ v. some_done x))) c.in_ok-name.ensures (found_next (fits_any (λ v. some_done _)) c.in_ok-rest-2.ensures (found_done _ _ _ _)))
