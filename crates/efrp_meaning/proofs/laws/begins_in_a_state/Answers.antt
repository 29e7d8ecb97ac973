use Rattle.efrp_meaning.proofs.StateLaws.{begins-in-a-state}
use Rattle.efrp_meaning.proofs.laws.begins_in_a_state.Goals as goal

pub returns : goal.returns
returns c = begins-in-a-state
