use Rattle.std.specs.Prelude.{◌++◌, map}
use Rattle.std.proofs.Common.{List, sym, ap, subst, ◌∙◌}
use Rattle.std.proofs.lemmas.List.{append-nil}
use Rattle.frp_tree.specs.declared.syntax.Program.{Program}
use Rattle.frp_tree.specs.Tree.{OutputTree, Tree, output_of, program_tree_of}
use Rattle.event_needs.specs.Marking.{AreNamed, clause_expressions}
use Rattle.event_needs.proofs.MarkFacts.{output-more}
use Rattle.event_needs.proofs.NumberLaws.{checked-differ, tree-at, whole-trees}
use Rattle.event_needs.proofs.walks.mark_outputs.Goals as goal

pub loop-o-init : goal.loop-o-init
loop-o-init c =
    let p = program_tree_of c.args.typed.now.program in
    subst (λ (es : List Tree). AreNamed p es c.args.marked.now.items) (sym (append-nil (clause_expressions c.args.event.now p.decls))) c.requires

pub loop-o-preserved : goal.loop-o-preserved
loop-o-preserved c =
    let typed = c.args.typed.now in
    let p = program_tree_of typed.program in
    let same = c.as_slice-o-items.ensures ∙ ap (λ (q : Program). q.outputs) c.program.ensures in
    output-more p (checked-differ p typed.checked) (clause_expressions c.args.event.now p.decls) c.loop-o.o-index (output_of c.o-item.result) c.loop-o.marked.items c.mark_names.new.marked.items
    (tree-at output_of c.as_slice-o-items.result.now typed.program.outputs c.loop-o.o-index c.o-item.result same c.loop-o-test.true c.o-item.is)
    c.loop-o.invariant c.mark_names.ensures.marks

pub returns : goal.returns
returns c =
    let typed = c.args.typed.now in
    let p = program_tree_of typed.program in
    let same = c.as_slice-o-items.ensures ∙ ap (λ (q : Program). q.outputs) c.program.ensures in
    subst (λ (os : List OutputTree). AreNamed p (clause_expressions c.args.event.now p.decls ++ map (λ (o : OutputTree). o.expr) os) c.loop-o.marked.items)
    (whole-trees output_of c.as_slice-o-items.result.now typed.program.outputs c.loop-o.o-index same c.loop-o-test.false) c.loop-o.invariant
