use Rattle.std.proofs.Common.{length, codes, map}
use Rattle.frp_tree.specs.Tree.{output_of}
use Rattle.frp_tree.specs.Grammar.{SpellsOutput}
use Rattle.efrp_syntax.specs.Items.{StartsWord}
use Rattle.efrp_syntax.proofs.ItemKindFacts.{HasRead}
use Rattle.efrp_syntax.proofs.items.outputs.Given as goal

abbrev pub invariant-row : goal.invariant-row
invariant-row l = HasRead SpellsOutput (StartsWord (codes "output")) l.tokens l.rest l.initial.begun l.begun (map output_of l.found)

abbrev pub decreases-row : goal.decreases-row
decreases-row l = length l.rest
