use Rattle.std.specs.Prelude.{List}
use Rattle.frp_tree.specs.declared.syntax.Decl.{Decl}
use Rattle.frp_tree.specs.Tree.{program_tree_of, behaviour_of}
use Rattle.efrp_types.specs.NameFaults.{behaviour_faults}
use Rattle.efrp_types.proofs.AnswerLaws.{Gone}
use Rattle.efrp_types.proofs.names.behaviours.Given as goal

abbrev pub invariant-loop-i : goal.invariant-loop-i
invariant-loop-i l = Gone (λ (before : List Decl) (d : Decl). behaviour_faults (program_tree_of l.p) d.name (behaviour_of d.behaviour)) l.decls l.i
