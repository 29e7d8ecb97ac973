-- All have reacted.
use Rattle.std.specs.Prelude.{◌≡◌, ℕ, false}
use Rattle.std.specs.List.{AllByRecursion}
use Rattle.pic_regs.specs.Registers.{flag}
use Rattle.pic_machine.specs.Run.{Log}
use Rattle.map_file.specs.declared.maps.Map.{Map}
use Rattle.firmware_promises.specs.Counts.{chip_after, latched_count, commit_count}

-- After the first n steps all have reacted: the flag of each event is clear, the program counter is at the ready address, and
-- each event has committed as often as it was latched.
pub record Settled (m : Map) (log : Log) (n : ℕ) : Type 0 where
  pub clear : AllByRecursion (λ e. flag e.source (chip_after log n).regs ≡ false) m.events
  pub ready : (chip_after log n).pc ≡ m.ready
  pub reacted : AllByRecursion (λ e. commit_count m log e n ≡ latched_count log e n) m.events
