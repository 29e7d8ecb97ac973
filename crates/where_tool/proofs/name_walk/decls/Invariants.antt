use Rattle.std.specs.Prelude.{ℕ, List, map}
use Rattle.frp_tree.specs.declared.syntax.Decl.{Decl}
use Rattle.frp_tree.specs.Tree.{decl_of}
use Rattle.where_tool.specs.Visits.{decl_visits}
use Rattle.where_tool.proofs.WalkFacts.{Gone}
use Rattle.where_tool.proofs.name_walk.decls.Given as goal

abbrev pub invariant-loop-i : goal.invariant-loop-i
invariant-loop-i l = Gone (λ (n : ℕ) (before : List Decl) (d : Decl). decl_visits l.events n (map decl_of before) (decl_of d)) l.decls l.i
