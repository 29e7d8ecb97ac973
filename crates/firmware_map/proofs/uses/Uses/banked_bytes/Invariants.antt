use Rattle.std.proofs.Common.{◌≡◌, ◌&&◌}
use Rattle.firmware_promises.specs.Firmware.{count_below, is_banked}
use Rattle.firmware_map.specs.Written.{is_written, program_of, used_by}
use Rattle.firmware_map.proofs.uses.Uses.banked_bytes.Given as goal

abbrev pub invariant-loop-address : goal.invariant-loop-address
invariant-loop-address l = l.count ≡ count_below l.address (λ a. is_written (program_of l.self) (used_by l.self) a && is_banked a)
