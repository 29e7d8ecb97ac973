use Rattle.frp_tree.specs.Tree.{program_tree_of, tree_of}
use Rattle.where_tool.proofs.TypeFacts.{root-goes}
use Rattle.where_tool.proofs.WalkFacts.{handed-first, walks-rest}
use Rattle.where_tool.proofs.type_walk.expression.Goals as goal

pub returns-in_err-found : goal.returns-in_err-found
returns-in_err-found c = handed-first _ _ (λ (done : Unit {0}). Unit {0}) _ c.from_residual.result c.from_residual.ensures.1 c.in_err-found.ensures

pub returns : goal.returns
returns c =
    let found = c.in_ok-found.ensures in
    walks-rest _ _ (λ (done : Unit {0}). Unit {0}) c.met.result found.0
    (root-goes (program_tree_of c.args.p.now) c.args.owner.now c.args.host c.args.wanted (tree_of c.args.e.now) c.in_ok-found.found c.met.result found (c.met.ensures _ c.unlike.ensures))
