use Rattle.std.proofs.Common.{◌≡◌}
use Rattle.hex_file.specs.Tables.{items_below, aside_item}
use Rattle.hex_file.proofs.tables.aside.Given as goal

abbrev pub invariant-loop-address : goal.invariant-loop-address
invariant-loop-address l = l.bytes ≡ items_below (aside_item l.table) l.address
