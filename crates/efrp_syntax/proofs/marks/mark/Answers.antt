use Rattle.std.proofs.Common.{length, ap, arith}
use Rattle.efrp_syntax.proofs.FirstMarkFacts.{one_first, short_found, short_none, none_found}
use Rattle.efrp_syntax.proofs.marks.mark.Goals as goal

pub returns-in_err-number_of-in-len1-up : goal.returns-in_err-number_of-in-len1-up
returns-in_err-number_of-in-len1-up c =
    rw c.from_residual.ensures (short_none c.args.text.now _ _ (one_first c.args.text.now c.in-len1-up.len_at_least) c.in_default.ensures c.in_err-number_of-in-len1-up.ensures)

pub returns-in-empty : goal.returns-in-empty
returns-in-empty c = none_found c.args.text.now c.in_default.ensures (λ a rest k e h. omega (arith, c.in-empty.len_below, ap length e))

pub returns-in_ok-number_of-in-len1-up : goal.returns-in_ok-number_of-in-len1-up
returns-in_ok-number_of-in-len1-up c =
    short_found c.args.text.now _ _ _ (one_first c.args.text.now c.in-len1-up.len_at_least) c.in_default.ensures c.in_ok-number_of-in-len1-up.ensures
