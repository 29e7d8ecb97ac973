use Rattle.std.specs.Prelude.{◌≡◌, flat_map}
use Rattle.std.proofs.Common.{take}
use Rattle.frp_tree.specs.declared.syntax.Decl.{Decl}
use Rattle.frp_tree.specs.Tree.{behaviour_of}
use Rattle.reaction_model.specs.Values.{first_values}
use Rattle.reaction_model.proofs.passes.first_states.Given as goal

abbrev pub invariant-loop-d : goal.invariant-loop-d
invariant-loop-d l = l.states ≡ flat_map (λ (d : Decl). first_values (behaviour_of d.behaviour)) (take l.d-index l.d-items)
