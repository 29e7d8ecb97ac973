use Rattle.frp_tree.specs.Grammar.{word}
use Rattle.frp_tree.specs.Names.{type_name}
use Rattle.frp_tree.specs.declared.syntax.Ty.TheVariants as ty
use Rattle.efrp_syntax.specs.Answers.{Anything}
use Rattle.efrp_syntax.proofs.PhraseLaws.{stuck_one}
use Rattle.efrp_syntax.proofs.ItemKindFacts.{exits}
use Rattle.efrp_syntax.proofs.DefinitionFacts.{type_failed}
use Rattle.efrp_syntax.proofs.definitions.ty.Goals as goal

pub returns-in_err-rest-in-Some : goal.returns-in_err-rest-in-Some
returns-in_err-rest-in-Some c = exits _ _ _ _ _ _ _ _ c.from_residual.ensures.1 (type_failed c.in-Some.ty c.in-Some.ensures c.name.ensures c.in_err-rest-in-Some.ensures)

pub returns-in-None : goal.returns-in-None
returns-in-None c = stuck_one (λ t. word (type_name t)) (λ t. Unit {0}) Anything c.args.tokens.now ty.U8 c.args.begun.now tt (λ t i. c.in-None.ensures t)
