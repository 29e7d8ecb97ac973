use Rattle.std.specs.Prelude.{List, map}
use Rattle.frp_tree.specs.declared.syntax.Clause.{Clause}
use Rattle.frp_tree.specs.Tree.{program_tree_of, clause_of}
use Rattle.efrp_types.specs.NameFaults.{clause_faults}
use Rattle.efrp_types.proofs.AnswerLaws.{Gone}
use Rattle.efrp_types.proofs.names.clauses.Given as goal

abbrev pub invariant-loop-i : goal.invariant-loop-i
invariant-loop-i l = Gone (λ (before : List Clause) (k : Clause). clause_faults (program_tree_of l.p) l.owner (map clause_of before) (clause_of k)) l.clauses l.i
