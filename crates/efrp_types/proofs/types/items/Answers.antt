use Rattle.frp_tree.specs.declared.syntax.Ty.TheVariants.{U8}
use Rattle.frp_tree.specs.Tree.{DeclTree, OutputTree, decl_of, output_of, program_tree_of}
use Rattle.efrp_types.specs.Ready.{AreFit, IsFit}
use Rattle.efrp_types.specs.TypeFaults.{setup_byte_faults, behaviour_type_faults, faults_as}
use Rattle.efrp_types.proofs.AnswerLaws.{told-first, rest-tells}
use Rattle.efrp_types.proofs.DeclFacts.{flat-row, flat-trees}
use Rattle.efrp_types.proofs.FitLaws.{decls-fit, outputs-fit}
use Rattle.efrp_types.proofs.RowLaws.{all-of}
use Rattle.efrp_types.proofs.types.items.Goals as goal

pub returns-in_err-setups : goal.returns-in_err-setups
returns-in_err-setups c =
    told-first _ _ _ c.from_residual.result c.from_residual.ensures.1 (rw (c.as_slice.ensures, flat-row setup_byte_faults c.args.p.now.setups) at c.in_err-setups.ensures)

pub decls-requires-clause-fit : goal.decls-requires-clause-fit
decls-requires-clause-fit c =
    rw c.as_slice-2.ensures (all-of (λ (d : DeclTree). AreFit (program_tree_of c.args.p.now) d.behaviour) decl_of c.args.p.now.decls (decls-fit (program_tree_of c.args.p.now) c.requires))

pub returns-in_err-decls : goal.returns-in_err-decls
returns-in_err-decls c =
    rest-tells _ _ _ (rw (c.as_slice.ensures, flat-row setup_byte_faults c.args.p.now.setups) at c.in_ok-setups.ensures)
    (told-first _ _ _ c.from_residual-in_err-decls.result c.from_residual-in_err-decls.ensures.1
    (rw (c.as_slice-2.ensures, flat-trees decl_of (λ (d : DeclTree). behaviour_type_faults (program_tree_of c.args.p.now) d.name d.ty d.behaviour) c.args.p.now.decls) at c.in_err-decls.ensures))

pub outputs-requires-clause-fit : goal.outputs-requires-clause-fit
outputs-requires-clause-fit c =
    rw c.as_slice-3.ensures (all-of (λ (o : OutputTree). IsFit (program_tree_of c.args.p.now) o.expr) output_of c.args.p.now.outputs (outputs-fit (program_tree_of c.args.p.now) c.requires))

pub returns : goal.returns
returns c =
    rest-tells _ _ _ (rw (c.as_slice.ensures, flat-row setup_byte_faults c.args.p.now.setups) at c.in_ok-setups.ensures)
    (rest-tells _ _ _ (rw (c.as_slice-2.ensures, flat-trees decl_of (λ (d : DeclTree). behaviour_type_faults (program_tree_of c.args.p.now) d.name d.ty d.behaviour) c.args.p.now.decls) at c.in_ok-decls.ensures)
    (rw (c.as_slice-3.ensures, flat-trees output_of (λ (o : OutputTree). faults_as (program_tree_of c.args.p.now) o.port U8 o.expr) c.args.p.now.outputs) at c.outputs.ensures))
