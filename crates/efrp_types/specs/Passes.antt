-- Which programs pass the checks.
use Rattle.std.specs.Prelude.{◌≡◌, []}
use Rattle.frp_tree.specs.Tree.{ProgramTree}
use Rattle.efrp_meaning.specs.Causal.{IsCausal}
use Rattle.efrp_types.specs.NameFaults.{name_faults}
use Rattle.efrp_types.specs.TypeFaults.{type_faults}

-- Names and types have no fault.
pub record IsChecked (p : ProgramTree) : Type 0 where
  pub names : name_faults p ≡ []
  pub types : type_faults p ≡ []

-- And on no event does a definition depend on itself.
pub record Passes (p : ProgramTree) : Type 0 where
  pub checked : IsChecked p
  pub causal : IsCausal p
