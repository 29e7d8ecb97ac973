use Rattle.std.specs.Prelude.{◌≡◌, map}
use Rattle.std.proofs.Common.{take}
use Rattle.frp_tree.specs.declared.syntax.Event.{Event}
use Rattle.preempt_core.proofs.replays.priorities_of.Given as goal

abbrev pub invariant-loop-e : goal.invariant-loop-e
invariant-loop-e l = l.priorities ≡ map (λ (e : Event). e.priority) (take l.e-index l.e-items)
