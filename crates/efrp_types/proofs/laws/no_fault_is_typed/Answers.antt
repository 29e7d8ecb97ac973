use Rattle.efrp_types.proofs.TypedLaws.{no-fault-is-typed}
use Rattle.efrp_types.proofs.laws.no_fault_is_typed.Goals as goal

pub returns : goal.returns
returns c = no-fault-is-typed
