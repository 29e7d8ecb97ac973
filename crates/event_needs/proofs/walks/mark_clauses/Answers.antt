use Rattle.std.proofs.Common.{List, sym, ap, subst, ◌∙◌}
use Rattle.std.proofs.lemmas.List.{length-map}
use Rattle.frp_tree.specs.declared.syntax.Program.{Program}
use Rattle.frp_tree.specs.Tree.{DeclTree, decl_of, program_tree_of}
use Rattle.event_needs.specs.Marking.{AreNamed, clause_expressions}
use Rattle.event_needs.proofs.MarkFacts.{none-named, clause-more}
use Rattle.event_needs.proofs.NumberLaws.{checked-differ, tree-at, whole-trees}
use Rattle.event_needs.proofs.walks.mark_clauses.Goals as goal

pub loop-d-init : goal.loop-d-init
loop-d-init c =
    let ds = c.args.typed.now.program.decls in
    none-named (program_tree_of c.args.typed.now.program) c.args.marked.now.items _ c.requires (sym (length-map ds decl_of))

pub loop-d-preserved : goal.loop-d-preserved
loop-d-preserved c =
    let typed = c.args.typed.now in
    let p = program_tree_of typed.program in
    let same = c.as_slice-d-items.ensures ∙ ap (λ (q : Program). q.decls) c.program.ensures in
    clause-more p (checked-differ p typed.checked) c.args.event.now c.loop-d.d-index (decl_of c.d-item.result) c.loop-d.marked.items c.mark_clause.new.marked.items
    (tree-at decl_of c.as_slice-d-items.result.now typed.program.decls c.loop-d.d-index c.d-item.result same c.loop-d-test.true c.d-item.is)
    c.loop-d.invariant c.mark_clause.ensures.marks

pub returns : goal.returns
returns c =
    let typed = c.args.typed.now in
    let p = program_tree_of typed.program in
    let same = c.as_slice-d-items.ensures ∙ ap (λ (q : Program). q.decls) c.program.ensures in
    subst (λ (ds : List DeclTree). AreNamed p (clause_expressions c.args.event.now ds) c.loop-d.marked.items)
    (whole-trees decl_of c.as_slice-d-items.result.now typed.program.decls c.loop-d.d-index same c.loop-d-test.false) c.loop-d.invariant
