use Rattle.std.proofs.Common.{length, codes}
use Rattle.frp_tree.specs.Grammar.{SpellsEvent}
use Rattle.efrp_syntax.specs.Items.{StartsWord}
use Rattle.efrp_syntax.proofs.ItemKindFacts.{HasRead}
use Rattle.efrp_syntax.proofs.items.events.Given as goal

abbrev pub invariant-row : goal.invariant-row
invariant-row l = HasRead SpellsEvent (StartsWord (codes "event")) l.tokens l.rest l.initial.begun l.begun l.found

abbrev pub decreases-row : goal.decreases-row
decreases-row l = length l.rest
