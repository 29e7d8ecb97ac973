-- The boot clears no flag.
use Rattle.std.specs.Prelude.{◌≡◌, ℕ, ◌<◌, false}
use Rattle.pic_isa.specs.declared.sources.Source.{Source}
use Rattle.pic_machine.specs.Run.{Log}
use Rattle.map_file.specs.declared.maps.Map.{Map}
use Rattle.firmware_promises.specs.Counts.{clears}
use Rattle.firmware_promises.specs.Ready.{BeforeReady}

-- No step before the ready boundary clears a flag, be its source one of the program's or not.
abbrev pub FlagsStay : Map → Log → ℕ → Type 0
FlagsStay m log n = (k : ℕ) (source : Source) → k < n → BeforeReady m log n k → clears source (log k) ≡ false
