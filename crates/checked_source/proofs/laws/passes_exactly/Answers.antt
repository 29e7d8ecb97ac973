use Rattle.checked_source.proofs.FaultLaws.{passes-exactly}
use Rattle.checked_source.proofs.laws.passes_exactly.Goals as goal

pub returns : goal.returns
returns c = passes-exactly
