use Rattle.std.proofs.Common.{take}
use Rattle.frp_tree.specs.Tree.{program_tree_of}
use Rattle.efrp_meaning.specs.Meaning.{Samples, State}
use Rattle.reaction_model.specs.Stands.{AreValues}
use Rattle.reaction_model.proofs.MadeFacts.{Made, state_types, new_of}
use Rattle.reaction_model.proofs.passes.new_states.Given as goal

abbrev pub invariant-loop-i : goal.invariant-loop-i
invariant-loop-i l =
    (s : State) (j : Samples) → AreValues (program_tree_of l.typed.program) s j l.event l.values
    → Made (state_types (take l.i (program_tree_of l.typed.program).decls)) (new_of (program_tree_of l.typed.program) s j l.event (take l.i (program_tree_of l.typed.program).decls)) l.states
