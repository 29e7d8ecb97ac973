use Rattle.frp_tree.specs.Tree.{decl_of, output_of}
use Rattle.efrp_types.specs.NameFaults.{setup_faults, decl_faults, output_faults}
use Rattle.efrp_types.proofs.AnswerLaws.{told-first, rest-tells}
use Rattle.efrp_types.proofs.DeclFacts.{after-trees, flat-row}
use Rattle.efrp_types.proofs.names.items.Goals as goal

pub returns-in_err-events : goal.returns-in_err-events
returns-in_err-events c = told-first _ _ _ c.from_residual.result c.from_residual.ensures.1 (rw c.as_slice.ensures at c.in_err-events.ensures)

pub returns-in_err-setups : goal.returns-in_err-setups
returns-in_err-setups c =
    rest-tells _ _ _ (rw c.as_slice.ensures at c.in_ok-events.ensures)
    (told-first _ _ _ c.from_residual-in_err-setups.result c.from_residual-in_err-setups.ensures.1 (rw (c.as_slice-2.ensures, flat-row setup_faults c.args.p.now.setups) at c.in_err-setups.ensures))

pub returns-in_err-decls : goal.returns-in_err-decls
returns-in_err-decls c =
    rest-tells _ _ _ (rw c.as_slice.ensures at c.in_ok-events.ensures) (rest-tells _ _ _ (rw (c.as_slice-2.ensures, flat-row setup_faults c.args.p.now.setups) at c.in_ok-setups.ensures)
    (told-first _ _ _ c.from_residual-in_err-decls.result c.from_residual-in_err-decls.ensures.1
    (rw (c.as_slice-3.ensures, c.as_slice-4.ensures, after-trees decl_of (decl_faults c.args.p.now.events) c.args.p.now.decls) at c.in_err-decls.ensures)))

pub returns : goal.returns
returns c =
    rest-tells _ _ _ (rw c.as_slice.ensures at c.in_ok-events.ensures) (rest-tells _ _ _ (rw (c.as_slice-2.ensures, flat-row setup_faults c.args.p.now.setups) at c.in_ok-setups.ensures)
    (rest-tells _ _ _ (rw (c.as_slice-3.ensures, c.as_slice-4.ensures, after-trees decl_of (decl_faults c.args.p.now.events) c.args.p.now.decls) at c.in_ok-decls.ensures)
    (rw (c.as_slice-5.ensures, after-trees output_of output_faults c.args.p.now.outputs) at c.outputs.ensures)))
