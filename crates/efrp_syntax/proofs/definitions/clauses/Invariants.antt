use Rattle.std.proofs.Common.{length, map}
use Rattle.frp_tree.specs.Tree.{clause_of}
use Rattle.frp_tree.specs.Grammar.{SpellsClause}
use Rattle.efrp_syntax.specs.Items.{StartsName}
use Rattle.efrp_syntax.proofs.ItemKindFacts.{HasRead}
use Rattle.efrp_syntax.proofs.definitions.clauses.Given as goal

abbrev pub invariant-row : goal.invariant-row
invariant-row l = HasRead SpellsClause StartsName l.tokens l.rest l.initial.begun l.begun (map clause_of l.found)

abbrev pub decreases-row : goal.decreases-row
decreases-row l = length l.rest
