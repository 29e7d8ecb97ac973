use Rattle.bank_alloc.proofs.AddressLaws.{addresses-general}
use Rattle.bank_alloc.proofs.laws.addresses_are_general.Goals as goal

pub returns : goal.returns
returns c = addresses-general
