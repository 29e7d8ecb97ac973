use Rattle.timed_core.proofs.AccountLaws.{accounted}
use Rattle.timed_core.proofs.laws.accounts_for_waiting.Goals as goal

pub returns : goal.returns
returns c = λ p tale off listed within. accounted p listed tale off within
