use Rattle.efrp_syntax.proofs.PhraseLaws.{fails_first, found_next, found_done}
use Rattle.efrp_syntax.proofs.ItemKindFacts.{exits}
use Rattle.efrp_syntax.proofs.DefinitionFacts.{plain_fits}
use Rattle.efrp_syntax.proofs.definitions.plain.Goals as goal

pub returns-in_err-expr : goal.returns-in_err-expr
returns-in_err-expr c = exits _ _ _ _ _ _ _ _ c.from_residual.ensures.1 (fails_first plain_fits c.in_err-expr.ensures)

pub returns : goal.returns
returns c = found_next plain_fits c.in_ok-expr.ensures (found_done _ _ _ _)
