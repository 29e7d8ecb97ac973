use Rattle.frp_tree.specs.Tree.{program_tree_of, tree_of}
use Rattle.program_bounds.proofs.TypedFacts.{itself-typed}
use Rattle.program_bounds.proofs.weights.+result_bytes.Goals as goal

pub ty-requires : goal.ty-requires
ty-requires t c = itself-typed (program_tree_of c.args.typed.now.program) (tree_of c.args.e.now) c.requires.typed
