use Rattle.firmware_promises.proofs.HeardLaws.{takes_in_time}
use Rattle.firmware_promises.proofs.laws.runs_take_in_time.Goals as goal

pub returns : goal.returns
returns c = takes_in_time
