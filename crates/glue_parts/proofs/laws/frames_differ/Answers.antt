use Rattle.glue_parts.proofs.FrameLaws.{frames-differ}
use Rattle.glue_parts.proofs.laws.frames_differ.Goals as goal

pub returns : goal.returns
returns c = frames-differ
