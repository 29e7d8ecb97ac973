use Rattle.std.proofs.Common.{true}
use Rattle.efrp_syntax.proofs.PhraseLaws.{fails_like, fails_first}
use Rattle.efrp_syntax.proofs.ItemKindFacts.{exits, some_done, fits_any}
use Rattle.efrp_syntax.proofs.DefinitionFacts.{later_like}
use Rattle.efrp_syntax.proofs.definitions.later.Goals as goal

pub returns-in_err-rest : goal.returns-in_err-rest
returns-in_err-rest c = exits _ _ _ _ _ _ _ _ c.from_residual.ensures.1 (fails_like (later_like c.if-begins.ensures) (fails_first (fits_any (λ u. some_done true)) c.in_err-rest.ensures))
