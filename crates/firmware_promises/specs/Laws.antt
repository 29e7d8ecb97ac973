-- What the laws of `laws.rt` promise of every run of the chip, and of programs with no inputs.
use Rattle.std.specs.Prelude.{◌≡◌, ℕ, List, [], map}
use Rattle.frp_tree.specs.Tree.{ProgramTree}
use Rattle.efrp_meaning.specs.Decls.{inputs_of}
use Rattle.efrp_meaning.specs.Meaning.{Occurrence}
use Rattle.pic_machine.specs.Chip.{Chip}
use Rattle.pic_machine.specs.Boundary.{Outer}
use Rattle.pic_machine.specs.Run.{Log, log}
use Rattle.map_file.specs.declared.maps.Map.{Map}
use Rattle.firmware_promises.specs.Counts.{commits, reactions}
use Rattle.firmware_promises.specs.Follows.{WindowsAreSampled}
use Rattle.firmware_promises.specs.Urgent.{TakesInTime}

-- What is heard with its flag set is taken in time, whatever the program memory, the chip at first and the map.
abbrev pub RunsTakeInTime : Type 0
RunsTakeInTime = (program : ℕ → ℕ) (c : Chip) (outer : ℕ → Outer) (m : Map) (n : ℕ) → TakesInTime m (log program c outer) n

-- An event with no samples.
abbrev pub unsampled : List ℕ → Occurrence
unsampled its_event = record { event = its_event; samples = [] }

-- The reactions of a program with no inputs are its commits, with no samples.
abbrev pub ReactsToCommits : ProgramTree → Type 0
ReactsToCommits p = (m : Map) (steps : Log) (n : ℕ) → inputs_of p ≡ [] → reactions p m steps n ≡ map unsampled (commits m steps n)

-- And its windows need none.
abbrev pub NeedsNoSamples : ProgramTree → Type 0
NeedsNoSamples p = (m : Map) (steps : Log) (n : ℕ) → inputs_of p ≡ [] → WindowsAreSampled p m steps n
