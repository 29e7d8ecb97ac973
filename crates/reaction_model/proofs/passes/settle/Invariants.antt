use Rattle.std.proofs.Common.{◌≡◌, length, take}
use Rattle.frp_tree.specs.Tree.{program_tree_of}
use Rattle.efrp_meaning.specs.Meaning.{Samples, State}
use Rattle.efrp_meaning.specs.States.{AreSamples, IsState}
use Rattle.reaction_model.specs.Stands.{AreGiven}
use Rattle.reaction_model.proofs.SettledFacts.{AreSettled}
use Rattle.reaction_model.proofs.passes.settle.Given as goal

abbrev pub invariant-loop-i : goal.invariant-loop-i
invariant-loop-i l =
    (length l.values ≡ length l.typed.program.decls)
    × ((s : State) (j : Samples) → IsState (program_tree_of l.typed.program) s → AreSamples (program_tree_of l.typed.program) j → AreGiven (program_tree_of l.typed.program) s j l.fn.values
    → AreSettled (program_tree_of l.typed.program) s j l.event (take l.i-index l.order) l.values)
