use Rattle.event_code.proofs.WorkLaws.{works_can_be_coded}
use Rattle.event_code.proofs.laws.works_can_be_coded.Goals as goal

pub returns : goal.returns
returns c = works_can_be_coded
