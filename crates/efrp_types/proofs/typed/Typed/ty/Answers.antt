use Rattle.frp_tree.specs.Tree.{program_tree_of, tree_of}
use Rattle.efrp_types.proofs.FitLaws.{typed-fit, some-result}
use Rattle.efrp_types.proofs.typed.Typed.ty.Goals as goal

pub type_at-requires-clause-fit : goal.type_at-requires-clause-fit
type_at-requires-clause-fit c = typed-fit (program_tree_of c.args.self.now.program) (tree_of c.args.e.now) c.requires

pub returns : goal.returns
returns c = some-result _ c.type_at.result c.requires c.type_at.ensures
