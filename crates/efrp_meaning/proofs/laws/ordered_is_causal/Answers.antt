use Rattle.efrp_meaning.proofs.CausalLaws.{ordered-is-causal}
use Rattle.efrp_meaning.proofs.laws.ordered_is_causal.Goals as goal

pub returns : goal.returns
returns c = ordered-is-causal
