use Rattle.efrp_types.proofs.TypedLaws.{typed-has-no-fault}
use Rattle.efrp_types.proofs.laws.typed_has_no_fault.Goals as goal

pub returns : goal.returns
returns c = typed-has-no-fault
