use Rattle.std.specs.Prelude.{ℕ, List}
use Rattle.frp_tree.specs.declared.syntax.Output.{Output}
use Rattle.frp_tree.specs.Tree.{program_tree_of, tree_of}
use Rattle.where_tool.specs.declared.parts.Host.TheVariants as host
use Rattle.where_tool.specs.Visits.{use_visits}
use Rattle.where_tool.proofs.WalkFacts.{Gone}
use Rattle.where_tool.proofs.name_walk.written.Given as goal

abbrev pub invariant-loop-i : goal.invariant-loop-i
invariant-loop-i l = Gone (λ (n : ℕ) (before : List Output) (o : Output). use_visits (program_tree_of l.p) (host.Output n) 0 (tree_of o.expr)) l.outputs l.i
