-- What is promised of the run of a large program's firmware, whatever the bytes.
use Rattle.std.specs.Prelude.{ℕ, List}
use Rattle.hex_file.specs.declared.images.Image.{Image}
use Rattle.hex_file.specs.ImageOf.{IsImageOf}
use Rattle.map_file.specs.declared.maps.Map.{Map}
use Rattle.map_file.specs.MapRules.{IsMap}
use Rattle.map_file.specs.MapText.{map_text}
use Rattle.firmware_promises.specs.Firmware.{IsFirmware}
use Rattle.large_program.specs.LargePrograms.{large_program}
use Rattle.large_run.specs.Tallies.{AllReacted, run_of, steps_of}

-- In the run of any firmware for a number's program on the number's arrivals all have reacted, and the states are those of the
-- model.
abbrev pub LargeReacts : ℕ → Type 0
LargeReacts n = (hex : List ℕ) (image : Image) (m : Map) → IsFirmware (large_program n) hex (map_text m) → IsMap m → IsImageOf hex image
    → AllReacted n m (run_of n image m) (steps_of n m)
