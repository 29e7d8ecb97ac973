use Rattle.efrp_meaning.proofs.StateLaws.{reacts-to-a-state}
use Rattle.efrp_meaning.proofs.laws.reacts_to_a_state.Goals as goal

pub returns : goal.returns
returns c = reacts-to-a-state
