use Rattle.std.proofs.Common.{string_bytes}
use Rattle.frp_tree.specs.Tree.{program_tree_of}
use Rattle.frp_tool.proofs.SerialTextFacts.{ToldSoFar}
use Rattle.frp_tool.proofs.models.text_of.Given as goal

abbrev pub invariant-loop-o : goal.invariant-loop-o
invariant-loop-o l = ToldSoFar (program_tree_of l.checked.typed.program) l.events l.o-index (string_bytes l.text) l.state.values
