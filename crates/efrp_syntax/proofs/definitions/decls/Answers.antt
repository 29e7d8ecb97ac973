use Rattle.std.proofs.Common.{codes}
use Rattle.frp_tree.specs.Grammar.{SpellsDecl}
use Rattle.frp_tree.specs.Tree.{decl_of}
use Rattle.efrp_syntax.specs.Items.{StartsWord}
use Rattle.efrp_syntax.proofs.PhraseLaws.{out_of_memory, map_append}
use Rattle.efrp_syntax.proofs.ItemKindFacts.{exits, read_start, read_next, read_stop, read_all, read_shorter}
use Rattle.efrp_syntax.proofs.DefinitionFacts.{decls_begin}
use Rattle.efrp_syntax.proofs.definitions.decls.Goals as goal

pub row-init : goal.row-init
row-init c = rw (c.new-found.ensures) (read_start SpellsDecl (StartsWord (codes "let")) _ _)

pub returns-in_err-decl : goal.returns-in_err-decl
returns-in_err-decl c = exits _ _ _ _ _ _ _ _ c.from_residual.ensures.1 (read_stop _ c.row.invariant c.row-test.ensures c.in_err-decl.ensures)

pub returns-in_err-push : goal.returns-in_err-push
returns-in_err-push c = out_of_memory _ _ _ _ _ _ _ c.from_residual-in_err-push.ensures.1

pub row-smaller : goal.row-smaller
row-smaller c = read_shorter (StartsWord (codes "let")) decls_begin (λ h. cc) c.in_ok-decl.ensures

pub row-preserved : goal.row-preserved
row-preserved c = rw (c.in_ok-push.ensures.ok, map_append decl_of) (read_next _ c.row.invariant c.row-test.ensures c.in_ok-decl.ensures)

pub returns : goal.returns
returns c = read_all decls_begin c.row.invariant c.row-test.ensures
