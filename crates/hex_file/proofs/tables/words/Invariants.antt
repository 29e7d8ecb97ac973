use Rattle.std.proofs.Common.{◌≡◌}
use Rattle.hex_file.specs.Tables.{items_below, word_item}
use Rattle.hex_file.proofs.tables.words.Given as goal

abbrev pub invariant-loop-address : goal.invariant-loop-address
invariant-loop-address l = l.words ≡ items_below (word_item l.table) l.address
