use Rattle.timed_core.proofs.LiveLaws.{never_stuck}
use Rattle.timed_core.proofs.laws.never_is_stuck.Goals as goal

pub returns : goal.returns
returns c = λ p listed. never_stuck p listed
