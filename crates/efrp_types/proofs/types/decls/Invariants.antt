use Rattle.std.specs.Prelude.{List}
use Rattle.frp_tree.specs.declared.syntax.Decl.{Decl}
use Rattle.frp_tree.specs.Tree.{program_tree_of, behaviour_of}
use Rattle.efrp_types.specs.TypeFaults.{behaviour_type_faults}
use Rattle.efrp_types.proofs.AnswerLaws.{Gone}
use Rattle.efrp_types.proofs.types.decls.Given as goal

abbrev pub invariant-loop-i : goal.invariant-loop-i
invariant-loop-i l = Gone (λ (before : List Decl) (d : Decl). behaviour_type_faults (program_tree_of l.p) d.name d.ty (behaviour_of d.behaviour)) l.decls l.i
