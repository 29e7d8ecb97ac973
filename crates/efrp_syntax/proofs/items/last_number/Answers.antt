use Rattle.efrp_syntax.proofs.PhraseLaws.{fails_first, fails_next}
use Rattle.efrp_syntax.proofs.ItemKindFacts.{exits, some_tok, some_done, some_seq, fits_any}
use Rattle.efrp_syntax.proofs.items.last_number.Goals as goal

pub returns-in_err-value : goal.returns-in_err-value
returns-in_err-value c = exits _ _ _ _ _ _ _ _ c.from_residual.ensures.1 (fails_first (fits_any (λ n. some_seq (some_tok _) (λ u. some_done n))) c.in_err-value.ensures)

pub returns-in_err-rest : goal.returns-in_err-rest
returns-in_err-rest c =
    exits _ _ _ _ _ _ _ _ c.from_residual-in_err-rest.ensures.1 (fails_next (fits_any (λ n. some_seq (some_tok _) (λ u. some_done n))) c.in_ok-value.ensures (fails_first (fits_any (λ u. some_done _)) c.in_err-rest.ensures))
