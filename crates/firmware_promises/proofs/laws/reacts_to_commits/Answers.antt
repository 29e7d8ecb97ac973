use Rattle.firmware_promises.proofs.SampleLaws.{reactions_are_commits}
use Rattle.firmware_promises.proofs.laws.reacts_to_commits.Goals as goal

pub returns : goal.returns
returns c = λ p m log n none. reactions_are_commits p m log none n
