use Rattle.pic_machine.proofs.TurnLaws.{taken-in_time}
use Rattle.pic_machine.proofs.laws.takes_in_time.Goals as goal

pub returns : goal.returns
returns c = taken-in_time
