use Rattle.std.proofs.Common.{suc, arith}
use Rattle.efrp_syntax.specs.Answers.{opened, Anything}
use Rattle.efrp_syntax.proofs.PhraseLaws.{deep_tok, passes_out_of_memory}
use Rattle.efrp_syntax.proofs.expressions.open.Goals as goal

pub returns-then-nesting-ge-DEEPEST_NESTING-clause-answer : goal.returns-then-nesting-ge-DEEPEST_NESTING-clause-answer
returns-then-nesting-ge-DEEPEST_NESTING-clause-answer c = λ t rest e.
    deep_tok (opened c.args.note (suc c.args.nesting) t) Anything c.args.tokens.now rest c.args.begun.now e (omega (arith, c.if-nesting-ge-DEEPEST_NESTING.true))

pub returns-in_err-push-in-Some-clause-answer : goal.returns-in_err-push-in-Some-clause-answer
returns-in_err-push-in-Some-clause-answer c = λ t rest e. passes_out_of_memory _ _ _ _ _ _ c.from_residual.ensures.1
