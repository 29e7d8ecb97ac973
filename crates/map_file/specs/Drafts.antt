-- What the lines read so far state, and which line may stand next.
use Rattle.std.specs.Prelude.{◌≡◌, ℕ, ◌+◌, Bool, true, false, not, ◌&&◌, ◌==◌, nat_lt, nat_le, List, [], ◌∷◌, ◌++◌, length, Some, None, ◌⊎◌}
use Rattle.std.specs.List.{list_all}
use Rattle.std.specs.Str.{bytes_eq}
use Rattle.pic_isa.specs.Sources.{source_number}
use Rattle.map_file.specs.declared.maps.MapEvent.{MapEvent}
use Rattle.map_file.specs.declared.maps.MapState.{MapState}
use Rattle.map_file.specs.declared.maps.MapSample.{MapSample}
use Rattle.map_file.specs.declared.maps.Map.{Map}
use Rattle.map_file.specs.declared.entries.Entry.{Entry}
use Rattle.map_file.specs.declared.entries.Entry.TheVariants.{Head, Event, State, Output, Sample, Ready, Regs, Report}
use Rattle.map_file.specs.declared.entries.Section.TheVariants.{Start}
use Rattle.map_file.specs.declared.drafts.Draft.{Draft}
use Rattle.map_file.specs.Entries.{section_after}
use Rattle.map_file.specs.MapRules.{names_event}

-- Two events differ in name and in source, two states in name, two samples in event or in input.
abbrev pub events_differ : MapEvent → MapEvent → Bool
events_differ a b = not (bytes_eq a.name b.name) && not (source_number a.source == source_number b.source)

abbrev pub states_differ : MapState → MapState → Bool
states_differ a b = not (bytes_eq a.name b.name)

abbrev pub samples_differ : MapSample → MapSample → Bool
samples_differ a b = not (bytes_eq a.event b.event && bytes_eq a.input b.input)

abbrev pub has_room_for_event : List MapEvent → MapEvent → Bool
has_room_for_event events e = nat_lt (length events) 11 && list_all (λ other. events_differ other e) events

abbrev pub has_room_for_state : List MapState → MapState → Bool
has_room_for_state states s = nat_lt (length states) 128 && list_all (λ other. states_differ other s) states

-- The sample is of one of the events, and none of the samples is of the same event and input.
abbrev pub is_new_sample : List MapEvent → List MapSample → MapSample → Bool
is_new_sample events samples s = names_event events s.event && list_all (λ other. samples_differ other s) samples

-- The entry breaks no rule after those that the draft has.
abbrev pub admits : Draft → Entry → Bool
admits d (Event e) = has_room_for_event d.map.events e
admits d (State s) = has_room_for_state d.map.states s
admits d (Output port) = nat_lt (length d.map.outputs) 5
admits d (Sample s) = is_new_sample d.map.events d.map.samples s
admits d (Regs r) = nat_le d.lowest r.from
admits d Head = true
admits d (Ready address) = true
admits d (Report r) = true

-- The map and the draft with one more entry.
abbrev pub with_entry : Map → Entry → Map
with_entry m Head = m
with_entry m (Event e) = record m { events = m.events ++ e ∷ [] }
with_entry m (State s) = record m { states = m.states ++ s ∷ [] }
with_entry m (Output port) = record m { outputs = m.outputs ++ port ∷ [] }
with_entry m (Sample s) = record m { samples = m.samples ++ s ∷ [] }
with_entry m (Ready address) = record m { ready = address }
with_entry m (Regs r) = record m { regs = m.regs ++ r ∷ [] }
with_entry m (Report r) = record m { depth = r.depth; ram = r.ram; words = r.words; settle = r.settle }

abbrev pub lowest_with : ℕ → Entry → ℕ
lowest_with low (Regs r) = r.to + 2
lowest_with low Head = low
lowest_with low (Event e) = low
lowest_with low (State s) = low
lowest_with low (Output port) = low
lowest_with low (Sample s) = low
lowest_with low (Ready address) = low
lowest_with low (Report r) = low

-- Before the first line.
abbrev pub empty_map : Map
empty_map = record { events = []; states = []; outputs = []; samples = []; ready = 0; regs = []; depth = 0; ram = 0; words = 0; settle = 0 }

abbrev pub empty_draft : Draft
empty_draft = record { section = Start; map = empty_map; lowest = 0 }

-- Whether an entry may stand next, and with it the draft after it.
abbrev pub Added : Draft → Entry → Bool → Draft → Type 0
Added old e true new = (admits old e ≡ true) × (section_after old.section e ≡ Some new.section) × (new.map ≡ with_entry old.map e) × (new.lowest ≡ lowest_with old.lowest e)
Added old e false new = (section_after old.section e ≡ None) ⊎ (admits old e ≡ false)
