use Rattle.glue_parts.proofs.FrameLaws.{frame-lies}
use Rattle.glue_parts.proofs.laws.frame_lies.Goals as goal

pub returns : goal.returns
returns c = frame-lies
