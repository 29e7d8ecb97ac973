use Rattle.std.proofs.Common.{◌≡◌, ◌++◌, length, map}
use Rattle.std.specs.List.{flat_map}
use Rattle.frp_tree.specs.Printed.{setup_item, line}
use Rattle.efrp_syntax.proofs.printer.setups.Given as goal

abbrev pub invariant-row : goal.invariant-row
invariant-row l = flat_map line (map setup_item l.rest) ++ l.out ≡ flat_map line (map setup_item l.setups) ++ l.initial.out

abbrev pub decreases-row : goal.decreases-row
decreases-row l = length l.rest
