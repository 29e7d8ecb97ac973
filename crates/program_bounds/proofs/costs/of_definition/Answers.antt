use Rattle.std.proofs.Common.{ap}
use Rattle.frp_tree.specs.Tree.{behaviour_of, program_tree_of, tree_of}
use Rattle.program_bounds.proofs.ClauseFacts.{plain-typed}
use Rattle.program_bounds.proofs.costs.of_definition.Goals as goal

pub of_expression-requires-clause-typed : goal.of_expression-requires-clause-typed
of_expression-requires-clause-typed c =
    plain-typed (program_tree_of c.args.typed.now.program) c.args.d.now.ty (behaviour_of c.args.d.now.behaviour) (tree_of c.in-Plain.e) (ap behaviour_of c.in-Plain.is) c.requires.typed
