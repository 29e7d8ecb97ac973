use Rattle.preempt_core.proofs.SerialLaws.{always_lawful}
use Rattle.preempt_core.proofs.laws.commits_are_serial.Goals as goal

pub returns : goal.returns
returns c = always_lawful
