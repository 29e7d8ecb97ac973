use Rattle.std.proofs.Common.{arith}
use Rattle.frp_tree.specs.Tree.{program_tree_of, tree_of}
use Rattle.program_bounds.proofs.FewFacts.{bytes-few, weight-few}
use Rattle.program_bounds.proofs.costs.of_expression.Goals as goal

pub weight-requires-clause-fits : goal.weight-requires-clause-fits
weight-requires-clause-fits c = let most = weight-few (program_tree_of c.args.typed.now.program) (tree_of c.args.e.now) in let few = c.requires.few in omega (arith, most, few)

pub result_bytes-requires-clause-fits : goal.result_bytes-requires-clause-fits
result_bytes-requires-clause-fits c = let most = bytes-few (program_tree_of c.args.typed.now.program) (tree_of c.args.e.now) in let few = c.requires.few in omega (arith, most, few)
