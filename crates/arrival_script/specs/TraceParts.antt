-- Steps that have no line.
use Rattle.std.specs.Prelude.{◌≡◌, ℕ, Bool, true, false, not, ◌&&◌, ◌||◌, ◌==◌, List, ◌++◌, is_none, get_or, codes}
use Rattle.std.specs.List.{list_any}
use Rattle.pic_machine.specs.declared.steps.Did.{Did}
use Rattle.pic_machine.specs.declared.steps.Did.TheVariants.{Took, Ran, Stopped}
use Rattle.pic_machine.specs.declared.steps.Stepped.{Stepped}
use Rattle.map_file.specs.declared.maps.Map.{Map}
use Rattle.map_file.specs.declared.maps.MapEvent.{MapEvent}
use Rattle.map_file.specs.declared.maps.MapSample.{MapSample}

-- A field after a space.
abbrev pub spaced : List ℕ → List ℕ
spaced field = codes " " ++ field

-- An event opens or commits at an address.
abbrev pub names_address : ℕ → MapEvent → Bool
names_address address e = address == e.«open» || address == e.commit

abbrev pub samples_address : ℕ → MapSample → Bool
samples_address address s = address == s.at

-- The map has an event that opens or commits at an address, or one that samples there.
abbrev pub is_named : Map → ℕ → Bool
is_named m address = list_any (names_address address) m.events || list_any (samples_address address) m.samples

-- Each address that the map names is marked. Addresses past the end count as marked.
abbrev pub Marks : List Bool → Map → Type 0
Marks marked m = (address : ℕ) → get_or marked address true ≡ false → is_named m address ≡ false

-- Nothing arrived, and nothing was put on a port.
abbrev pub is_silent : Stepped → Bool
is_silent report = report.latched == 0 && report.merged == 0 && is_none report.port

-- An instruction ran in silence at an address that the map doesn't name.
abbrev pub is_quiet : Map → Bool → Did → Bool
is_quiet m silent Took = false
is_quiet m silent (Ran address word) = silent && not (is_named m address)
is_quiet m silent (Stopped address why) = false
