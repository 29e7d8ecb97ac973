use Rattle.frp_tree.specs.declared.tokens.Token.TheVariants as token
use Rattle.efrp_syntax.specs.Answers.{noted, Anything}
use Rattle.efrp_syntax.proofs.PhraseLaws.{stuck_tok, passes_out_of_memory}
use Rattle.efrp_syntax.proofs.readers.mark.Goals as goal

pub returns-in_err-push-in-Some : goal.returns-in_err-push-in-Some
returns-in_err-push-in-Some c = passes_out_of_memory _ _ _ _ _ _ c.from_residual.ensures.1

pub returns-in-None : goal.returns-in-None
returns-in-None c = stuck_tok (noted c.args.note (token.Mark c.args.number)) Anything c.args.tokens.now c.args.begun.now c.in-None.ensures
