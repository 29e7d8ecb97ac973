use Rattle.frp_tree.proofs.TokenLaws.{one_list}
use Rattle.efrp_syntax.proofs.laws.one_list_of_tokens.Goals as goal

pub returns : goal.returns
returns c = one_list
