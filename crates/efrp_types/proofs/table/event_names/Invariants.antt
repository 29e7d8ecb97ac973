use Rattle.frp_tree.specs.declared.syntax.Event.{Event}
use Rattle.efrp_types.specs.Numbers.{texts_of}
use Rattle.efrp_types.proofs.KeyFacts.{Put}
use Rattle.efrp_types.proofs.table.event_names.Given as goal

abbrev pub invariant-loop-e : goal.invariant-loop-e
invariant-loop-e l = Put (λ (e : Event). e.name) l.events l.e-index (texts_of l.names)
