use Rattle.timed_core.proofs.SettleLaws.{settles}
use Rattle.timed_core.proofs.laws.all_react_in_time.Goals as goal

pub returns : goal.returns
returns c = λ p tale off listed within. settles p listed tale off within
