use Rattle.std.proofs.Common.{arith}
use Rattle.efrp_syntax.proofs.FirstTokenFacts.{first_comment, comment_skips}
use Rattle.efrp_syntax.proofs.prefixes.skipped.Goals as goal

pub returns-in-47 : goal.returns-in-47
returns-in-47 c =
    comment_skips c.args.text.now _ c.run.result.0.now c.run.result.1.now (first_comment c.args.text.now c.in-47.len_at_least (omega arith) (omega arith)) c.run.ensures
