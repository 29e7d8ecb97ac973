use Rattle.isr_vector.proofs.UrgencyLaws.{first-is_best}
use Rattle.isr_vector.proofs.laws.first_is_best.Goals as goal

pub returns : goal.returns
returns c = first-is_best
