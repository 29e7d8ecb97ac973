use Rattle.frp_tree.specs.Tree.{behaviour_of}
use Rattle.efrp_syntax.proofs.DefinitionFacts.{answers_like, input_like, table_like, reactive_like, plain_like}
use Rattle.efrp_syntax.proofs.definitions.behaviour.Goals as goal

pub returns-then-begins : goal.returns-then-begins
returns-then-begins c = answers_like _ _ behaviour_of c.input.result (input_like c.if-begins.ensures) c.input.ensures

pub returns-then-begins-2 : goal.returns-then-begins-2
returns-then-begins-2 c = answers_like _ _ behaviour_of c.table.result (table_like c.if-begins-2.ensures) c.table.ensures

pub returns-then-begins-3 : goal.returns-then-begins-3
returns-then-begins-3 c = answers_like _ _ behaviour_of c.reactive.result (reactive_like c.if-begins-3.ensures) c.reactive.ensures

pub returns-else-begins-3 : goal.returns-else-begins-3
returns-else-begins-3 c = answers_like _ _ behaviour_of c.plain.result (plain_like c.if-begins.ensures c.if-begins-2.ensures c.if-begins-3.ensures) c.plain.ensures
