use Rattle.frp_tree.proofs.PrintedProgramLaws.{printed_fewest}
use Rattle.efrp_syntax.proofs.laws.fewest_brackets.Goals as goal

pub returns : goal.returns
returns c = printed_fewest
