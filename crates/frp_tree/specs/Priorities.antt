-- The priorities that an event may have.
use Rattle.std.specs.Prelude.{ℕ, ◌<◌, ◌≤◌}
use Rattle.std.specs.List.{AllByRecursion}
use Rattle.frp_tree.specs.declared.syntax.Event.{Event}
use Rattle.frp_tree.specs.Tree.{ProgramTree}

-- Priorities are 1 to 11; a larger one is more urgent.
abbrev pub IsPriority : ℕ → Type 0
IsPriority n = (0 < n) × (n ≤ 11)

abbrev pub HasPriorities : ProgramTree → Type 0
HasPriorities p = AllByRecursion (λ (e : Event). IsPriority e.priority) p.events
