use Rattle.glue_parts.proofs.PieceLaws.{makes_lower, blind_lower}
use Rattle.glue_parts.proofs.laws.lowers.Goals as goal

pub returns : goal.returns
returns c = λ bank source. (makes_lower bank source, blind_lower source)
