use Rattle.preempt_core.proofs.MarkLaws.{marks_look_back}
use Rattle.preempt_core.proofs.laws.marks_look_back.Goals as goal

pub returns : goal.returns
returns c = marks_look_back
