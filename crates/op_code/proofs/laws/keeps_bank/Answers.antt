use Rattle.op_code.proofs.BankLaws.{keeps_bank}
use Rattle.op_code.proofs.laws.keeps_bank.Goals as goal

pub returns : goal.returns
returns c = keeps_bank
