use Rattle.isr_vector.proofs.UrgencyLaws.{all-are_events}
use Rattle.isr_vector.proofs.laws.all_are_events.Goals as goal

pub returns : goal.returns
returns c = all-are_events
