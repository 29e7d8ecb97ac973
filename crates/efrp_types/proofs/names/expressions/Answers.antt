use Rattle.frp_tree.specs.Tree.{DeclTree, OutputTree, decl_of, output_of, program_tree_of}
use Rattle.efrp_types.specs.NameFaults.{behaviour_faults, use_faults}
use Rattle.efrp_types.proofs.AnswerLaws.{told-first, rest-tells}
use Rattle.efrp_types.proofs.DeclFacts.{flat-trees}
use Rattle.efrp_types.proofs.names.expressions.Goals as goal

pub returns-in_err-behaviours : goal.returns-in_err-behaviours
returns-in_err-behaviours c =
    told-first _ _ _ c.from_residual.result c.from_residual.ensures.1
    (rw (c.as_slice.ensures, flat-trees decl_of (λ (d : DeclTree). behaviour_faults (program_tree_of c.args.p.now) d.name d.behaviour) c.args.p.now.decls) at c.in_err-behaviours.ensures)

pub returns : goal.returns
returns c =
    rest-tells _ _ _ (rw (c.as_slice.ensures, flat-trees decl_of (λ (d : DeclTree). behaviour_faults (program_tree_of c.args.p.now) d.name d.behaviour) c.args.p.now.decls) at c.in_ok-behaviours.ensures)
    (rw (c.as_slice-2.ensures, flat-trees output_of (λ (o : OutputTree). use_faults (program_tree_of c.args.p.now) o.expr) c.args.p.now.outputs) at c.written.ensures)
