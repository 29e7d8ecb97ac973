use Rattle.pic_machine.proofs.TurnLaws.{taking-may}
use Rattle.pic_machine.proofs.laws.takes_where_it_may.Goals as goal

pub returns : goal.returns
returns c = taking-may
