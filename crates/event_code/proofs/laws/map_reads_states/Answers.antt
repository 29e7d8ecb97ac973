use Rattle.event_code.proofs.WorkLaws.{map_reads_states}
use Rattle.event_code.proofs.laws.map_reads_states.Goals as goal

pub returns : goal.returns
returns c = map_reads_states
