use Rattle.std.proofs.Common.{◌≡◌, map, take}
use Rattle.frp_tree.specs.Tree.{program_tree_of, decl_of}
use Rattle.causality.specs.Graphs.{edges_on}
use Rattle.causality.proofs.graphs.graph_on.Given as goal

abbrev pub invariant-loop-d : goal.invariant-loop-d
invariant-loop-d l = l.graph ≡ map (edges_on (program_tree_of l.fn.t.program) l.event) (map decl_of (take l.d-index l.decls))
