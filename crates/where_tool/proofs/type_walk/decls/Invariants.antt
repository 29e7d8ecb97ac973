use Rattle.std.specs.Prelude.{ℕ, List}
use Rattle.frp_tree.specs.declared.syntax.Decl.{Decl}
use Rattle.frp_tree.specs.Tree.{program_tree_of, behaviour_of}
use Rattle.where_tool.specs.Visits.{behaviour_type_visits}
use Rattle.where_tool.proofs.WalkFacts.{Gone}
use Rattle.where_tool.proofs.type_walk.decls.Given as goal

abbrev pub invariant-loop-i : goal.invariant-loop-i
invariant-loop-i l = Gone (λ (n : ℕ) (before : List Decl) (d : Decl). behaviour_type_visits (program_tree_of l.p) d.name d.ty n (behaviour_of d.behaviour)) l.decls l.i
