use Rattle.std.proofs.Common.{◌≡◌, false}
use Rattle.std.specs.Prelude.{◌==◌}
use Rattle.bank_alloc.specs.Addresses.{address_of}
use Rattle.firmware_map.specs.Written.{some_below}
use Rattle.firmware_map.proofs.uses.Uses.is_cell.Given as goal

abbrev pub invariant-loop-cell : goal.invariant-loop-cell
invariant-loop-cell l = some_below l.cell (λ cell. l.address == address_of l.self.places.now.need cell) ≡ false
