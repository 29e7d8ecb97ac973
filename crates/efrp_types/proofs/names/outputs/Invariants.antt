use Rattle.std.specs.Prelude.{List, map}
use Rattle.frp_tree.specs.declared.syntax.Output.{Output}
use Rattle.frp_tree.specs.Tree.{output_of}
use Rattle.efrp_types.specs.NameFaults.{output_faults}
use Rattle.efrp_types.proofs.AnswerLaws.{Gone}
use Rattle.efrp_types.proofs.names.outputs.Given as goal

abbrev pub invariant-loop-i : goal.invariant-loop-i
invariant-loop-i l = Gone (λ (before : List Output) (o : Output). output_faults (map output_of before) (output_of o)) l.outputs l.i
