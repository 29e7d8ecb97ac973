use Rattle.frp_tree.specs.declared.syntax.Decl.{Decl}
use Rattle.efrp_types.specs.Numbers.{texts_of}
use Rattle.efrp_types.proofs.KeyFacts.{Put}
use Rattle.efrp_types.proofs.table.decl_names.Given as goal

abbrev pub invariant-loop-d : goal.invariant-loop-d
invariant-loop-d l = Put (λ (d : Decl). d.name) l.decls l.d-index (texts_of l.names)
