use Rattle.frp_tree.proofs.OneTreeLaws.{one_tree}
use Rattle.efrp_syntax.proofs.laws.one_tree.Goals as goal

pub returns : goal.returns
returns c = one_tree
