use Rattle.firmware_map.specs.Ranges.{HoldBelow}
use Rattle.firmware_map.specs.Written.{is_written, program_of, used_by}
use Rattle.firmware_map.proofs.uses.Uses.ranges.Given as goal

abbrev pub invariant-loop-address : goal.invariant-loop-address
invariant-loop-address l = HoldBelow l.address (is_written (program_of l.self) (used_by l.self)) l.ranges.items
