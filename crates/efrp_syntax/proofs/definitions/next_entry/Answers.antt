use Rattle.efrp_syntax.proofs.PhraseLaws.{fails_first, fails_next}
use Rattle.efrp_syntax.proofs.ItemKindFacts.{exits}
use Rattle.efrp_syntax.proofs.DefinitionFacts.{entry_fits}
use Rattle.efrp_syntax.proofs.definitions.next_entry.Goals as goal

pub returns-in_err-rest : goal.returns-in_err-rest
returns-in_err-rest c = exits _ _ _ _ _ _ _ _ c.from_residual.ensures.1 (fails_first (entry_fits _) c.in_err-rest.ensures)

pub returns-in_err-entry : goal.returns-in_err-entry
returns-in_err-entry c = exits _ _ _ _ _ _ _ _ c.from_residual-in_err-entry.ensures.1 (fails_next (entry_fits _) c.in_ok-rest.ensures c.in_err-entry.ensures)
