use Rattle.pic_machine.proofs.TurnLaws.{stops-exactly}
use Rattle.pic_machine.proofs.laws.stops_exactly.Goals as goal

pub returns : goal.returns
returns c = stops-exactly
