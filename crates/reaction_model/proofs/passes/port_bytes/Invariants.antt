use Rattle.std.specs.Prelude.{◌≡◌, map}
use Rattle.std.proofs.Common.{take}
use Rattle.frp_tree.specs.declared.syntax.Output.{Output}
use Rattle.frp_tree.specs.Tree.{program_tree_of, tree_of}
use Rattle.reaction_model.specs.Values.{byte_of, value_of}
use Rattle.reaction_model.proofs.passes.port_bytes.Given as goal

abbrev pub invariant-loop-o : goal.invariant-loop-o
invariant-loop-o l = l.ports ≡ map (λ (o : Output). byte_of (value_of (program_tree_of l.typed.program) l.values (tree_of o.expr))) (take l.o-index l.o-items)
