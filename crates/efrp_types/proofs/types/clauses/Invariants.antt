use Rattle.std.specs.Prelude.{List}
use Rattle.frp_tree.specs.declared.syntax.Clause.{Clause}
use Rattle.frp_tree.specs.Tree.{program_tree_of, tree_of}
use Rattle.efrp_types.specs.TypeFaults.{faults_as}
use Rattle.efrp_types.proofs.AnswerLaws.{Gone}
use Rattle.efrp_types.proofs.types.clauses.Given as goal

abbrev pub invariant-loop-i : goal.invariant-loop-i
invariant-loop-i l = Gone (λ (before : List Clause) (k : Clause). faults_as (program_tree_of l.p) l.owner l.wanted (tree_of k.expr)) l.clauses l.i
