use Rattle.frp_tree.specs.declared.syntax.Ty.TheVariants.{U8}
use Rattle.frp_tree.specs.Tree.{DeclTree, OutputTree, decl_of, output_of, program_tree_of}
use Rattle.efrp_types.specs.Ready.{AreFit, IsFit}
use Rattle.efrp_types.proofs.FitLaws.{decls-fit, outputs-fit}
use Rattle.efrp_types.proofs.RowLaws.{all-of}
use Rattle.where_tool.specs.declared.parts.Host.TheVariants as host
use Rattle.where_tool.specs.Visits.{behaviour_type_visits, typed_visits}
use Rattle.where_tool.specs.Walks.{AreFew, HaveFew}
use Rattle.where_tool.proofs.FewFacts.{decls-few, outputs-few}
use Rattle.where_tool.proofs.WalkFacts.{handed-first, walks-rest, visited-trees}
use Rattle.where_tool.proofs.type_walk.walk_types.Goals as goal

pub returns-in_err-setups : goal.returns-in_err-setups
returns-in_err-setups c = handed-first _ _ (λ (done : Unit {0}). Unit {0}) _ c.from_residual.result c.from_residual.ensures.1 (rw c.as_slice.ensures at c.in_err-setups.ensures)

pub decls-requires-clause-fit : goal.decls-requires-clause-fit
decls-requires-clause-fit c =
    rw c.as_slice-2.ensures (all-of (λ (d : DeclTree). AreFit (program_tree_of c.args.p.now) d.behaviour) decl_of c.args.p.now.decls (decls-fit (program_tree_of c.args.p.now) c.requires))

pub decls-requires-clause-few : goal.decls-requires-clause-few
decls-requires-clause-few c = rw c.as_slice-2.ensures (all-of (λ (d : DeclTree). HaveFew d.behaviour) decl_of c.args.p.now.decls (decls-few (program_tree_of c.args.p.now) c.requires.formed))

pub returns-in_err-decls : goal.returns-in_err-decls
returns-in_err-decls c =
    walks-rest _ _ (λ (done : Unit {0}). Unit {0}) c.from_residual-in_err-decls.result (rw c.as_slice.ensures at c.in_ok-setups.ensures).0
    (handed-first _ _ (λ (done : Unit {0}). Unit {0}) _ c.from_residual-in_err-decls.result c.from_residual-in_err-decls.ensures.1
    (rw (c.as_slice-2.ensures, visited-trees decl_of (λ n before (d : DeclTree). behaviour_type_visits (program_tree_of c.args.p.now) d.name d.ty n d.behaviour) c.args.p.now.decls) at c.in_err-decls.ensures))

pub outputs-requires-clause-fit : goal.outputs-requires-clause-fit
outputs-requires-clause-fit c =
    rw c.as_slice-3.ensures (all-of (λ (o : OutputTree). IsFit (program_tree_of c.args.p.now) o.expr) output_of c.args.p.now.outputs (outputs-fit (program_tree_of c.args.p.now) c.requires))

pub outputs-requires-clause-few : goal.outputs-requires-clause-few
outputs-requires-clause-few c = rw c.as_slice-3.ensures (all-of (λ (o : OutputTree). AreFew 0 o.expr) output_of c.args.p.now.outputs (outputs-few (program_tree_of c.args.p.now) c.requires.formed))

pub returns : goal.returns
returns c =
    walks-rest _ _ (λ (done : Unit {0}). Unit {0}) c.outputs.result (rw c.as_slice.ensures at c.in_ok-setups.ensures).0
    (walks-rest _ _ (λ (done : Unit {0}). Unit {0}) c.outputs.result
    (rw (c.as_slice-2.ensures, visited-trees decl_of (λ n before (d : DeclTree). behaviour_type_visits (program_tree_of c.args.p.now) d.name d.ty n d.behaviour) c.args.p.now.decls) at c.in_ok-decls.ensures).0
    (rw (c.as_slice-3.ensures, visited-trees output_of (λ n before (o : OutputTree). typed_visits (program_tree_of c.args.p.now) o.port (host.Output n) U8 o.expr) c.args.p.now.outputs) at c.outputs.ensures))
