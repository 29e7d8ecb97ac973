use Rattle.std.proofs.Common.{length, codes, map}
use Rattle.frp_tree.specs.Tree.{decl_of}
use Rattle.frp_tree.specs.Grammar.{SpellsDecl}
use Rattle.efrp_syntax.specs.Items.{StartsWord}
use Rattle.efrp_syntax.proofs.ItemKindFacts.{HasRead}
use Rattle.efrp_syntax.proofs.definitions.decls.Given as goal

abbrev pub invariant-row : goal.invariant-row
invariant-row l = HasRead SpellsDecl (StartsWord (codes "let")) l.tokens l.rest l.initial.begun l.begun (map decl_of l.found)

abbrev pub decreases-row : goal.decreases-row
decreases-row l = length l.rest
