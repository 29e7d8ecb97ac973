use Rattle.frp_tree.specs.declared.tokens.Token.TheVariants as token
use Rattle.efrp_syntax.specs.Answers.{noted, Anything}
use Rattle.efrp_syntax.proofs.PhraseLaws.{stuck_one, out_of_memory}
use Rattle.efrp_syntax.proofs.readers.number.Goals as goal

pub returns-in_err-push-in-Some : goal.returns-in_err-push-in-Some
returns-in_err-push-in-Some c = out_of_memory _ _ _ _ _ _ _ c.from_residual.ensures.1

pub returns-in-None : goal.returns-in-None
returns-in-None c = stuck_one (λ n. noted c.args.note (token.Num n)) (λ n. Unit {0}) Anything c.args.tokens.now 0 c.args.begun.now tt (λ n i. c.in-None.ensures n)
