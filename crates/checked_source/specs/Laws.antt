-- What is true of the first faults of programs.
use Rattle.std.specs.Prelude.{ℕ, List, ◌⊎◌}
use Rattle.frp_tree.specs.Tree.{ProgramTree}
use Rattle.efrp_types.specs.declared.faults.CheckFault.{CheckFault}
use Rattle.efrp_types.specs.Answers.{IsFirst}
use Rattle.efrp_types.specs.Passes.{IsChecked, Passes}
use Rattle.causality.specs.Orders.{IsFirstCycle}
use Rattle.checked_source.specs.Readings.{check_faults}

-- The program has a first fault: one of names or types, or where it has none of these, a first cycle.
abbrev pub HasFirstFault : ProgramTree → Type 0
HasFirstFault p =
    ((fault : CheckFault) × IsFirst fault (check_faults p)) ⊎ (IsChecked p × (event : List ℕ) × (name : List ℕ) × IsFirstCycle p event name)

-- A program passes the checks exactly where it has no first fault.
pub record PassesExactly (p : ProgramTree) : Type 0 where
  pub faultless : ¬ HasFirstFault p → Passes p
  pub faulty : HasFirstFault p → ¬ Passes p
