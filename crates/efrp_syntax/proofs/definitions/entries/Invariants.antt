use Rattle.std.proofs.Common.{length, [], ◌∷◌}
use Rattle.efrp_syntax.proofs.DefinitionFacts.{HasEntries}
use Rattle.efrp_syntax.proofs.definitions.entries.Given as goal

abbrev pub invariant-row : goal.invariant-row
invariant-row l = HasEntries (l.fn.first ∷ []) l.tokens l.rest l.initial.begun l.begun l.found

abbrev pub decreases-row : goal.decreases-row
decreases-row l = length l.rest
