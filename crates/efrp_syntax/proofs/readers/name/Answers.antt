use Rattle.std.proofs.Common.{codes, refl, false, ◌≡◌}
use Rattle.frp_tree.specs.Names.{is_keyword}
use Rattle.frp_tree.specs.declared.tokens.Token.TheVariants as token
use Rattle.efrp_syntax.specs.Answers.{noted, Anything}
use Rattle.efrp_syntax.proofs.PhraseLaws.{stuck_one, out_of_memory}
use Rattle.efrp_syntax.proofs.readers.name.Goals as goal

pub returns-in_err-push-in-Some : goal.returns-in_err-push-in-Some
returns-in_err-push-in-Some c = out_of_memory _ _ _ _ _ _ _ c.from_residual.ensures.1

pub returns-in_err-copy-in-Some : goal.returns-in_err-copy-in-Some
returns-in_err-copy-in-Some c = out_of_memory _ _ _ _ _ _ _ c.from_residual-in_err-copy-in-Some.ensures.1

pub returns-in-None : goal.returns-in-None
returns-in-None c = stuck_one (λ x. noted c.args.note (token.Word x)) (λ x. is_keyword x ≡ false) Anything c.args.tokens.now (codes "a") c.args.begun.now refl c.in-None.ensures
