use Rattle.glue_parts.proofs.FrameLaws.{frame-no_cell}
use Rattle.glue_parts.proofs.laws.frame_is_no_cell.Goals as goal

pub returns : goal.returns
returns c = frame-no_cell
