use Rattle.std.specs.Prelude.{◌≡◌, sum_by}
use Rattle.std.proofs.Common.{take}
use Rattle.frp_tree.specs.Tree.{OutputTree, program_tree_of}
use Rattle.efrp_meaning.specs.Bounds.{result_bytes, weight}
use Rattle.program_bounds.proofs.costs.of_outputs.Given as goal

abbrev pub invariant-loop-output : goal.invariant-loop-output
invariant-loop-output l =
    (l.costs.body ≡ sum_by (λ (o : OutputTree). weight (program_tree_of l.typed.program) o.expr) (take l.output-index (program_tree_of l.typed.program).outputs))
    × (l.costs.scratch ≡ sum_by (λ (o : OutputTree). result_bytes (program_tree_of l.typed.program) o.expr) (take l.output-index (program_tree_of l.typed.program).outputs))
