use Rattle.frp_tree.specs.Tree.{DeclTree, OutputTree, decl_of, output_of, program_tree_of}
use Rattle.efrp_types.proofs.RowLaws.{all-of}
use Rattle.where_tool.specs.declared.parts.Host.TheVariants as host
use Rattle.where_tool.specs.Visits.{behaviour_visits, use_visits}
use Rattle.where_tool.specs.Walks.{AreFew, HaveFew}
use Rattle.where_tool.proofs.FewFacts.{decls-few, outputs-few}
use Rattle.where_tool.proofs.WalkFacts.{handed-first, walks-rest, visited-trees}
use Rattle.where_tool.proofs.name_walk.expressions.Goals as goal

pub behaviours-requires : goal.behaviours-requires
behaviours-requires c = rw c.as_slice.ensures (all-of (λ (d : DeclTree). HaveFew d.behaviour) decl_of c.args.p.now.decls (decls-few (program_tree_of c.args.p.now) c.requires))

pub returns-in_err-behaviours : goal.returns-in_err-behaviours
returns-in_err-behaviours c =
    handed-first _ _ (λ (done : Unit {0}). Unit {0}) _ c.from_residual.result c.from_residual.ensures.1
    (rw (c.as_slice.ensures, visited-trees decl_of (λ n before (d : DeclTree). behaviour_visits (program_tree_of c.args.p.now) d.name n d.behaviour) c.args.p.now.decls) at c.in_err-behaviours.ensures)

pub written-requires : goal.written-requires
written-requires c = rw c.as_slice-2.ensures (all-of (λ (o : OutputTree). AreFew 0 o.expr) output_of c.args.p.now.outputs (outputs-few (program_tree_of c.args.p.now) c.requires))

pub returns : goal.returns
returns c =
    walks-rest _ _ (λ (done : Unit {0}). Unit {0}) c.written.result
    (rw (c.as_slice.ensures, visited-trees decl_of (λ n before (d : DeclTree). behaviour_visits (program_tree_of c.args.p.now) d.name n d.behaviour) c.args.p.now.decls) at c.in_ok-behaviours.ensures).0
    (rw (c.as_slice-2.ensures, visited-trees output_of (λ n before (o : OutputTree). use_visits (program_tree_of c.args.p.now) (host.Output n) 0 o.expr) c.args.p.now.outputs) at c.written.ensures)
