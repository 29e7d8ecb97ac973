use Rattle.frp_tree.specs.Tree.{behaviour_of, clause_of, program_tree_of}
use Rattle.program_bounds.proofs.ClauseFacts.{clause-is-few, clause-is-typed}
use Rattle.program_bounds.proofs.costs.of_clause.Goals as goal

pub of_expression-requires-clause-typed : goal.of_expression-requires-clause-typed
of_expression-requires-clause-typed c =
    clause-is-typed (program_tree_of c.args.typed.now.program) c.args.event.now (clause_of c.in-Some.clause.now) c.args.d.now.ty (behaviour_of c.args.d.now.behaviour) c.requires.typed c.in-Some.ensures

pub of_expression-requires-clause-few : goal.of_expression-requires-clause-few
of_expression-requires-clause-few c =
    clause-is-few (program_tree_of c.args.typed.now.program) c.args.event.now (clause_of c.in-Some.clause.now) (behaviour_of c.args.d.now.behaviour) c.requires.few c.in-Some.ensures
