use Rattle.efrp_types.proofs.DeclFacts.{Past}
use Rattle.efrp_types.proofs.lookups.decl_named.Given as goal

abbrev pub invariant-loop-d : goal.invariant-loop-d
invariant-loop-d l = Past l.decls l.name l.d-index
