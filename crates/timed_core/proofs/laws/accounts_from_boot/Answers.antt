use Rattle.timed_core.proofs.AccountLaws.{accounted_from_boot}
use Rattle.timed_core.proofs.laws.accounts_from_boot.Goals as goal

pub returns : goal.returns
returns c = λ p tale off listed within. accounted_from_boot p listed tale off within
