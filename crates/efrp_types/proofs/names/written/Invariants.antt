use Rattle.std.specs.Prelude.{List}
use Rattle.frp_tree.specs.declared.syntax.Output.{Output}
use Rattle.frp_tree.specs.Tree.{program_tree_of, tree_of}
use Rattle.efrp_types.specs.NameFaults.{use_faults}
use Rattle.efrp_types.proofs.AnswerLaws.{Gone}
use Rattle.efrp_types.proofs.names.written.Given as goal

abbrev pub invariant-loop-i : goal.invariant-loop-i
invariant-loop-i l = Gone (λ (before : List Output) (o : Output). use_faults (program_tree_of l.p) (tree_of o.expr)) l.outputs l.i
