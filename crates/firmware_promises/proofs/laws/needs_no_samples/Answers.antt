use Rattle.firmware_promises.proofs.SampleLaws.{windows_are_sampled}
use Rattle.firmware_promises.proofs.laws.needs_no_samples.Goals as goal

pub returns : goal.returns
returns c = λ p m log n none. windows_are_sampled p m log none n
