use Rattle.std.specs.Prelude.{◌≡◌, sum_by}
use Rattle.std.proofs.Common.{take}
use Rattle.frp_tree.specs.Tree.{program_tree_of}
use Rattle.efrp_meaning.specs.Bounds.{result_bytes, weight}
use Rattle.program_bounds.specs.Costing.{decl_cost}
use Rattle.program_bounds.proofs.costs.of_definitions.Given as goal

abbrev pub invariant-loop-i : goal.invariant-loop-i
invariant-loop-i l =
    (l.costs.body ≡ sum_by (decl_cost (program_tree_of l.typed.program) (weight (program_tree_of l.typed.program)) 6 l.event) (take l.i (program_tree_of l.typed.program).decls))
    × (l.costs.scratch ≡ sum_by (decl_cost (program_tree_of l.typed.program) (result_bytes (program_tree_of l.typed.program)) 1 l.event) (take l.i (program_tree_of l.typed.program).decls))
