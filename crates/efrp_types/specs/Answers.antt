-- What the checks answer.
use Rattle.std.specs.Prelude.{◌≡◌, List, [], ◌∷◌, ◌⊎◌, Option, Some, Result, Ok, Err}
use Rattle.frp_tree.specs.declared.syntax.Ty.{Ty}
use Rattle.efrp_types.specs.declared.faults.CheckFault.{CheckFault}
use Rattle.efrp_types.specs.declared.faults.CheckFault.TheVariants.{Memory}

-- It is the first of these faults.
abbrev pub IsFirst : CheckFault → List CheckFault → Type 0
IsFirst fault faults = (rest : List CheckFault) × (faults ≡ fault ∷ rest)

-- Ok, exactly where there is none of these faults; or the first of them. Out of memory may be told in place of either.
abbrev pub Tells : {A : Type 0} → List CheckFault → Result A CheckFault → Type 0
Tells faults (Ok x) = faults ≡ []
Tells faults (Err fault) = IsFirst fault faults ⊎ (fault ≡ Memory)

-- It is the type, exactly where there is none of these faults; or the first of them, or out of memory.
abbrev pub TellsType : List CheckFault → Option Ty → Result Ty CheckFault → Type 0
TellsType faults type (Ok t) = (faults ≡ []) × (type ≡ Some t)
TellsType faults type (Err fault) = IsFirst fault faults ⊎ (fault ≡ Memory)
