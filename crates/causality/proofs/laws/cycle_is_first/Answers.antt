use Rattle.causality.proofs.CycleLaws.{cycle-is-first}
use Rattle.causality.proofs.laws.cycle_is_first.Goals as goal

pub returns : goal.returns
returns c = cycle-is-first
