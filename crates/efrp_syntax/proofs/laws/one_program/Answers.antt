use Rattle.frp_tree.proofs.OneTreeLaws.{one_program}
use Rattle.efrp_syntax.proofs.laws.one_program.Goals as goal

pub returns : goal.returns
returns c = one_program
