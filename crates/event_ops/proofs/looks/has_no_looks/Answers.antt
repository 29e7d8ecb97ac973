use Rattle.std.specs.Prelude.{◌↔◌, IsTrue, false, true}
use Rattle.std.proofs.Common.{subst, sym, ◌∙◌}
use Rattle.frp_tree.specs.Tree.{program_tree_of}
use Rattle.event_ops.specs.Works.{HasNoLooks}
use Rattle.event_ops.proofs.LookFacts.{decls-mapped, outputs-mapped, program-tells}
use Rattle.event_ops.proofs.looks.has_no_looks.Goals as goal

pub returns-then-decls : goal.returns-then-decls
returns-then-decls c =
    let p = c.args.program.now in
    program-tells (program_tree_of p) true c.outputs_have_no_look-outputs.result (decls-mapped true c.as_slice.result.now p.decls (sym c.if-decls.true ∙ c.decls_have_no_look-decls.ensures) c.as_slice.ensures)
    (outputs-mapped c.outputs_have_no_look-outputs.result c.as_slice-2.result.now p.outputs c.outputs_have_no_look-outputs.ensures c.as_slice-2.ensures)

pub returns-else-decls : goal.returns-else-decls
returns-else-decls c =
    let p = c.args.program.now in
    subst (λ b. IsTrue b ↔ HasNoLooks (program_tree_of p)) (sym c.if-decls.false)
    (program-tells (program_tree_of p) false c.outputs_have_no_look-outputs.result (decls-mapped false c.as_slice.result.now p.decls (sym c.if-decls.false ∙ c.decls_have_no_look-decls.ensures) c.as_slice.ensures)
    (outputs-mapped c.outputs_have_no_look-outputs.result c.as_slice-2.result.now p.outputs c.outputs_have_no_look-outputs.ensures c.as_slice-2.ensures))
