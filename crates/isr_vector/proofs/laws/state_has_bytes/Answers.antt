use Rattle.isr_vector.proofs.StateLaws.{state-bytes}
use Rattle.isr_vector.proofs.laws.state_has_bytes.Goals as goal

pub returns : goal.returns
returns c = state-bytes
