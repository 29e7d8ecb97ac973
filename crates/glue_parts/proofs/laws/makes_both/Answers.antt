use Rattle.glue_parts.proofs.MakeLaws.{makes_then}
use Rattle.glue_parts.proofs.laws.makes_both.Goals as goal

pub returns : goal.returns
returns c = makes_then
