use Rattle.frp_tree.specs.Limits.{nodes}
use Rattle.frp_tree.specs.Tree.{tree_of}
use Rattle.expr_lower.proofs.lowering.+put.Given as goal

abbrev pub decreases-put : goal.decreases-put
decreases-put l = nodes (tree_of l.e.now)
