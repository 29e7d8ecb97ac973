use Rattle.std.specs.Prelude.{◌≡◌, ◌++◌, false}
use Rattle.std.specs.List.{flat_map}
use Rattle.std.proofs.Common.{take}
use Rattle.frp_tree.specs.Tree.{program_tree_of}
use Rattle.two_phase.specs.Assigned.{assigned}
use Rattle.two_phase.proofs.planning.assign_values.Given as goal

abbrev pub invariant-loop-decl : goal.invariant-loop-decl
invariant-loop-decl l = l.work ≡ l.fn.work ++ flat_map (assigned (program_tree_of l.typed.program) l.event false) (take l.decl-index l.order)
