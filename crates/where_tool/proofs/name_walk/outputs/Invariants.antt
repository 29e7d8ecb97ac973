use Rattle.std.specs.Prelude.{ℕ, List, map}
use Rattle.frp_tree.specs.declared.syntax.Output.{Output}
use Rattle.frp_tree.specs.Tree.{output_of}
use Rattle.where_tool.specs.Visits.{output_visits}
use Rattle.where_tool.proofs.WalkFacts.{Gone}
use Rattle.where_tool.proofs.name_walk.outputs.Given as goal

abbrev pub invariant-loop-i : goal.invariant-loop-i
invariant-loop-i l = Gone (λ (n : ℕ) (before : List Output) (o : Output). output_visits n (map output_of before) (output_of o)) l.outputs l.i
