use Rattle.event_code.proofs.WorkLaws.{does_event_work}
use Rattle.event_code.proofs.laws.does_event_work.Goals as goal

pub returns : goal.returns
returns c = does_event_work
