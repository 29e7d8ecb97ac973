use Rattle.frp_tree.specs.declared.syntax.Lit.TheVariants as lit
use Rattle.frp_tree.specs.Cells.{literal_token}
use Rattle.efrp_syntax.specs.Answers.{noted, Anything}
use Rattle.efrp_syntax.proofs.PhraseLaws.{stuck_one, out_of_memory}
use Rattle.efrp_syntax.proofs.readers.literal.Goals as goal

pub returns-in_err-push-in-Some : goal.returns-in_err-push-in-Some
returns-in_err-push-in-Some c = out_of_memory _ _ _ _ _ _ _ c.from_residual.ensures.1

pub returns-in-None : goal.returns-in-None
returns-in-None c = stuck_one (λ l. noted c.args.note (literal_token l)) (λ l. Unit {0}) Anything c.args.tokens.now (lit.Plain 0) c.args.begun.now tt (λ l i. c.in-None.ensures l)
