use Rattle.hex_file.proofs.WritableLaws.{writable}
use Rattle.frp_tool.proofs.runs.run.Goals as goal

pub traced-requires-clause-writable : goal.traced-requires-clause-writable
traced-requires-clause-writable g c = writable _ _ c.in_ok-parts.ensures.gives.2.image
