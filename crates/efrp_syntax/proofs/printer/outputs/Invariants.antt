use Rattle.std.proofs.Common.{◌≡◌, ◌++◌, length, map}
use Rattle.std.specs.List.{flat_map}
use Rattle.frp_tree.specs.Tree.{output_of}
use Rattle.frp_tree.specs.Printed.{output_item, line}
use Rattle.efrp_syntax.proofs.printer.outputs.Given as goal

abbrev pub invariant-row : goal.invariant-row
invariant-row l = flat_map line (map output_item (map output_of l.rest)) ++ l.out ≡ flat_map line (map output_item (map output_of l.outputs)) ++ l.initial.out

abbrev pub decreases-row : goal.decreases-row
decreases-row l = length l.rest
