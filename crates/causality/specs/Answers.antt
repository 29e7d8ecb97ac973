-- The answer of the check for cycles, and those of its parts.
use Rattle.std.specs.Prelude.{◌≡◌, ℕ, ◌<◌, List, [], get_or, length, Result, Ok, Err}
use Rattle.frp_tree.specs.Tree.{ProgramTree}
use Rattle.efrp_meaning.specs.Causal.{IsCausal, IsCausalOn}
use Rattle.efrp_types.specs.Numbers.{event_name}
use Rattle.causality.specs.declared.faults.CycleFault.{CycleFault}
use Rattle.causality.specs.declared.faults.CycleFault.TheVariants.{Cycle, Memory}
use Rattle.causality.specs.declared.checked.Checked.{Checked}
use Rattle.causality.specs.Orders.{IsOrder, IsFirstOn, IsFirstCycle}

-- No definition depends on itself; or the first cycle is told. `Memory` may be told in place of either.
abbrev pub Orders : ProgramTree → Result Checked CycleFault → Type 0
Orders p (Ok c) = IsCausal p
Orders p (Err (Cycle event name)) = IsFirstCycle p event name
Orders p (Err Memory) = Unit {0}

-- On one event.
abbrev pub OrdersOn : ProgramTree → List ℕ → Result (List ℕ) CycleFault → Type 0
OrdersOn p event (Ok numbers) = IsOrder p event numbers × IsCausalOn p event
OrdersOn p event (Err (Cycle told name)) = (told ≡ event) × IsFirstOn p event name
OrdersOn p event (Err Memory) = Unit {0}

-- On all events, one after the other.
pub record AreOrders (p : ProgramTree) (orders : List (List ℕ)) : Type 0 where
  pub len : length orders ≡ length p.events
  pub ordered : (event : ℕ) → event < length p.events → IsOrder p (event_name p event) (get_or orders event [])
  pub causal : IsCausal p

abbrev pub AllOrders : ProgramTree → Result (List (List ℕ)) CycleFault → Type 0
AllOrders p (Ok orders) = AreOrders p orders
AllOrders p (Err (Cycle event name)) = IsFirstCycle p event name
AllOrders p (Err Memory) = Unit {0}
