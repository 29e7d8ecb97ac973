use Rattle.efrp_meaning.proofs.StateLaws.{runs-to-a-state}
use Rattle.efrp_meaning.proofs.laws.runs_to_a_state.Goals as goal

pub returns : goal.returns
returns c = runs-to-a-state
