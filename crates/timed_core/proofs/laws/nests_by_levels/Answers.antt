use Rattle.timed_core.proofs.NestingLaws.{nests}
use Rattle.timed_core.proofs.laws.nests_by_levels.Goals as goal

pub returns : goal.returns
returns c = λ p tale. nests p tale
