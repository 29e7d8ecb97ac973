use Rattle.std.specs.Prelude.{◌≡◌, map}
use Rattle.std.proofs.Common.{take}
use Rattle.frp_tree.specs.Tree.{program_tree_of}
use Rattle.efrp_types.specs.Numbers.{event_name}
use Rattle.event_needs.specs.Needed.{is_needed}
use Rattle.event_needs.proofs.needs.marks.Given as goal

abbrev pub invariant-loop-i : goal.invariant-loop-i
invariant-loop-i l = l.marks ≡ map (is_needed (program_tree_of l.c.typed.program) (event_name (program_tree_of l.c.typed.program) l.event)) (take l.i (program_tree_of l.c.typed.program).decls)
