use Rattle.firmware_map.proofs.FrameLaws.{frame-is_placed}
use Rattle.firmware_map.proofs.laws.frames_are_placed.Goals as goal

pub returns : goal.returns
returns c = frame-is_placed
