use Rattle.frp_tree.specs.declared.levels.Level.TheVariants as level
use Rattle.frp_tree.specs.Tree.{Const, tree_of}
use Rattle.frp_tree.specs.Grammar.{SpellsExpr}
use Rattle.efrp_syntax.specs.Expressions.{Stops}
use Rattle.efrp_syntax.proofs.PhraseLaws.{answers_stop, fails_first, fails_like, found_next, found_like, found_done}
use Rattle.efrp_syntax.proofs.OperandFacts.{literal_like}
use Rattle.efrp_syntax.proofs.ExitFacts.{literal_fits}
use Rattle.efrp_syntax.proofs.expressions.constant.Goals as goal

pub returns-in_err-value-clause-answer : goal.returns-in_err-value-clause-answer
returns-in_err-value-clause-answer c = λ nesting.
    answers_stop (SpellsExpr level.Operand nesting) (Stops level.Operand) tree_of c.args.tokens.now c.args.begun.now c.literal.new.begun c.from_residual.result c.in_err-value.field-0.0 c.from_residual.ensures.1
    (fails_like (literal_like nesting c.args.tokens.now c.requires.0 c.requires.1) (fails_first literal_fits c.in_err-value.ensures))

pub returns-clause-answer : goal.returns-clause-answer
returns-clause-answer c = λ nesting.
    found_like (literal_like nesting c.args.tokens.now c.requires.0 c.requires.1) (found_next literal_fits c.in_ok-value.ensures (found_done (Stops level.Operand) c.in_ok-value.rest.now (Const c.in_ok-value.value) c.literal.new.begun))
