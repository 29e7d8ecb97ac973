use Rattle.std.specs.Prelude.{ℕ, List, map}
use Rattle.frp_tree.specs.declared.syntax.Clause.{Clause}
use Rattle.frp_tree.specs.Tree.{program_tree_of, clause_of}
use Rattle.where_tool.specs.Visits.{clause_visits}
use Rattle.where_tool.proofs.WalkFacts.{Gone}
use Rattle.where_tool.proofs.name_walk.clauses.Given as goal

abbrev pub invariant-loop-i : goal.invariant-loop-i
invariant-loop-i l = Gone (λ (n : ℕ) (before : List Clause) (c : Clause). clause_visits (program_tree_of l.p) l.owner l.decl n (map clause_of before) (clause_of c)) l.clauses l.i
