use Rattle.efrp_syntax.proofs.FirstMarkFacts.{two_first, long_found, long_none}
use Rattle.efrp_syntax.proofs.marks.long_mark.Goals as goal

pub returns-in_err-number_of-in-len2-up : goal.returns-in_err-number_of-in-len2-up
returns-in_err-number_of-in-len2-up c =
    rw c.from_residual.ensures (long_none c.args.text.now _ _ _ (two_first c.args.text.now c.in-len2-up.len_at_least) c.in_err-number_of-in-len2-up.ensures)

pub returns-in_ok-number_of-in-len2-up : goal.returns-in_ok-number_of-in-len2-up
returns-in_ok-number_of-in-len2-up c =
    long_found c.args.text.now _ _ _ _ (two_first c.args.text.now c.in-len2-up.len_at_least) c.in_ok-number_of-in-len2-up.ensures
