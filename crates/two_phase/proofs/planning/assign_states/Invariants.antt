use Rattle.std.specs.Prelude.{◌≡◌, ◌++◌, true}
use Rattle.std.specs.List.{flat_map, range_with_len}
use Rattle.frp_tree.specs.Tree.{program_tree_of}
use Rattle.two_phase.specs.Assigned.{assigned}
use Rattle.two_phase.proofs.planning.assign_states.Given as goal

abbrev pub invariant-loop-decl : goal.invariant-loop-decl
invariant-loop-decl l = l.work ≡ l.fn.work ++ flat_map (assigned (program_tree_of l.typed.program) l.event true) (range_with_len 0 l.decl)
