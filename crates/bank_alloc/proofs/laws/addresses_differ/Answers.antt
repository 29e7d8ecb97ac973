use Rattle.bank_alloc.proofs.AddressLaws.{addresses-differ}
use Rattle.bank_alloc.proofs.laws.addresses_differ.Goals as goal

pub returns : goal.returns
returns c = addresses-differ
