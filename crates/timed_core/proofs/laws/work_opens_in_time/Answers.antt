use Rattle.timed_core.proofs.OpenLaws.{work_opens}
use Rattle.timed_core.proofs.laws.work_opens_in_time.Goals as goal

pub returns : goal.returns
returns c = λ p tale quick. work_opens p tale quick
