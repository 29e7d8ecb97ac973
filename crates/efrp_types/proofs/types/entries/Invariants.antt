use Rattle.std.specs.Prelude.{List}
use Rattle.frp_tree.specs.declared.syntax.Lit.{Lit}
use Rattle.frp_tree.specs.Tree.{ProgramTree}
use Rattle.efrp_types.specs.TypeFaults.{literal_faults}
use Rattle.efrp_types.proofs.AnswerLaws.{Gone}
use Rattle.efrp_types.proofs.types.entries.Given as goal

abbrev pub invariant-loop-i : goal.invariant-loop-i
invariant-loop-i l = (p : ProgramTree) → Gone (λ (before : List Lit) (k : Lit). literal_faults p l.owner l.wanted k) l.entries l.i
