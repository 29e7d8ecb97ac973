use Rattle.large_run.proofs.ReactLaws.{large_reacts}
use Rattle.large_run.proofs.laws.large_reacts.Goals as goal

pub returns : goal.returns
returns c = large_reacts
