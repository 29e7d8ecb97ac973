use Rattle.bank_alloc.proofs.AddressLaws.{general-plain}
use Rattle.bank_alloc.proofs.laws.general_is_plain.Goals as goal

pub returns : goal.returns
returns c = general-plain
