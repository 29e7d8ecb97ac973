use Rattle.large_program.proofs.LargeLaws.{arrivals_rise}
use Rattle.large_program.proofs.laws.arrivals_rise.Goals as goal

pub returns : goal.returns
returns c = arrivals_rise
