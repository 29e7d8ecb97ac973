-- What a map may name. The image has words at 8, 20 and 21.
use Rattle.std.specs.Prelude.{ℕ, map, List, [], ◌∷◌, codes}
use Rattle.std.proofs.Common.{refl, ap, ◌≢◌}
use Rattle.frp_tree.specs.declared.syntax.Event.{Event}
use Rattle.frp_tree.specs.declared.syntax.Ty.{Ty}
use Rattle.frp_tree.specs.declared.syntax.Ty.TheVariants.{Bool, U8, U16}
use Rattle.efrp_meaning.proofs.Examples.Programs.{tick}
use Rattle.pic_isa.specs.declared.sources.Source.TheVariants.{T0}
use Rattle.hex_file.specs.declared.images.Image.{Image}
use Rattle.map_file.specs.declared.maps.MapEvent.{MapEvent}
use Rattle.map_file.specs.declared.maps.MapState.{MapState}
use Rattle.map_file.specs.declared.maps.Map.{Map}
use Rattle.firmware_promises.specs.Firmware.{Names}
use Rattle.promise_examples.proofs.Logs.Stories.{counting, counting_map, tick_event}
use Rattle.promise_examples.proofs.Logs.ReportsSides.{three_words}
use Rattle.promise_examples.proofs.Logs.SampleSides.{sampling, sampling_map}

pub names : Names counting three_words counting_map
names = record {
  events = refl;
  states = refl;
  outputs = refl;
  samples = refl;
  code_differs = ((λ e. cc, (λ e. cc, tt)), ((λ e. cc, tt), (tt, tt)));
  code_is_there = (refl, (refl, (refl, tt)));
  states_differ = (tt, tt);
  states_are_general = (refl, tt);
  states_are_listed = (refl, tt);
}

-- The map with another event, another state or other outputs.
abbrev of_event : MapEvent → Map
of_event e = record counting_map { events = e ∷ [] }

abbrev of_state : MapState → Map
of_state s = record counting_map { states = s ∷ [] }

abbrev state_at : ℕ → MapState
state_at address = record { name = codes "n"; ty = U8; low = address; high = address }

-- Names, sources, priorities and types that differ.
other_name : codes "Tic" ∷ [] ≢ tick ∷ []
other_name e = cc

other_source : codes "T0" ∷ [] ≢ codes "INT" ∷ []
other_source e = cc

other_priority : ◌≢◌ {A = List ℕ} (2 ∷ []) (1 ∷ [])
other_priority e = cc

other_state_name : codes "nn" ∷ [] ≢ codes "n" ∷ []
other_state_name e = cc

other_type : Bool ∷ [] ≢ U8 ∷ []
other_type e = cc

-- The event must have its name, source and priority, and there must be no other.
pub name_must_be_right : Names counting three_words (of_event (record tick_event { name = codes "Tic" })) → ⊥
name_must_be_right it = other_name (ap (map (λ (e : Event). e.name)) it.events)

pub source_must_be_right : Names counting three_words (of_event (record tick_event { source = T0 })) → ⊥
source_must_be_right it = other_source (ap (map (λ (e : Event). e.source)) it.events)

pub priority_must_be_right : Names counting three_words (of_event (record tick_event { priority = 2 })) → ⊥
priority_must_be_right it = other_priority (ap (map (λ (e : Event). e.priority)) it.events)

pub event_must_be_there : Names counting three_words (record counting_map { events = [] }) → ⊥
event_must_be_there it = let e = it.events in cc

-- The state must have its name and type, and the output must be on PORTB.
pub state_must_be_named : Names counting three_words (of_state (record (state_at 0x020) { name = codes "nn" })) → ⊥
state_must_be_named it = other_state_name (ap (map (λ (s : List ℕ × Ty). s.0)) it.states)

pub state_must_be_typed : Names counting three_words (of_state (record (state_at 0x020) { ty = Bool })) → ⊥
state_must_be_typed it = other_type (ap (map (λ (s : List ℕ × Ty). s.1)) it.states)

pub output_must_be_there : Names counting three_words (record counting_map { outputs = [] }) → ⊥
output_must_be_there it = let e = it.outputs in cc

pub output_must_be_right : Names counting three_words (record counting_map { outputs = 2 ∷ [] }) → ⊥
output_must_be_right it = let e = it.outputs in cc

-- Ready, open and commit must differ, and have words.
pub ready_and_open_must_differ : Names counting three_words (record counting_map { ready = 20 }) → ⊥
ready_and_open_must_differ it = it.code_differs.0.0 refl

pub open_and_commit_must_differ : Names counting three_words (of_event (record tick_event { commit = 20 })) → ⊥
open_and_commit_must_differ it = it.code_differs.1.0.0 refl

pub open_must_be_there : Names counting three_words (of_event (record tick_event { «open» = 19 })) → ⊥
open_must_be_there it = let e = it.code_is_there.1.0 in cc

pub commit_must_be_there : Names counting three_words (of_event (record tick_event { commit = 22 })) → ⊥
commit_must_be_there it = let e = it.code_is_there.1.1.0 in cc

pub ready_must_be_there : Names counting three_words (record counting_map { ready = 9 }) → ⊥
ready_must_be_there it = let e = it.code_is_there.0 in cc

-- The state must not be in 70h to 7Fh, nor outside general RAM, and must be listed.
pub state_must_be_outside_shared : Names counting three_words (of_state (state_at 0x070)) → ⊥
state_must_be_outside_shared it = let e = it.states_are_general.0 in cc

pub state_must_be_in_ram : Names counting three_words (of_state (state_at 0x01F)) → ⊥
state_must_be_in_ram it = let e = it.states_are_general.0 in cc

pub state_must_be_listed : Names counting three_words (of_state (state_at 0x021)) → ⊥
state_must_be_listed it = let e = it.states_are_listed.0 in cc

-- The high byte of a u16 counts too: it must not be the low one, and must be listed.
abbrev wide_at : ℕ → ℕ → MapState
wide_at its_low its_high = record { name = codes "n"; ty = U16; low = its_low; high = its_high }

pub bytes_must_differ : Names counting three_words (of_state (wide_at 0x020 0x020)) → ⊥
bytes_must_differ it = it.states_differ.0.0 refl

pub high_must_be_listed : Names counting three_words (of_state (wide_at 0x020 0x021)) → ⊥
high_must_be_listed it = let e = it.states_are_listed.1.0 in cc

-- Samples: each event has one for each input that it needs, at an address of its own that has a word; and there is no other.
abbrev four_words : Image
four_words = record three_words { words = record { address = 8; word = 0 } ∷ record { address = 18; word = 0 } ∷ record { address = 20; word = 0 } ∷ record { address = 21; word = 0 } ∷ [] }

pub names_with_a_sample : Names sampling four_words sampling_map
names_with_a_sample = record {
  events = refl;
  states = refl;
  outputs = refl;
  samples = refl;
  code_differs = ((λ e. cc, (λ e. cc, (λ e. cc, tt))), ((λ e. cc, (λ e. cc, tt)), ((λ e. cc, tt), (tt, tt))));
  code_is_there = (refl, (refl, (refl, (refl, tt))));
  states_differ = (tt, tt);
  states_are_general = (refl, tt);
  states_are_listed = (refl, tt);
}

pub sample_must_be_there : Names sampling four_words (record sampling_map { samples = [] }) → ⊥
sample_must_be_there it = let e = it.samples in cc

pub no_other_sample : Names counting three_words (record counting_map { samples = sampling_map.samples }) → ⊥
no_other_sample it = let e = it.samples in cc

abbrev sample_at : ℕ → Map
sample_at address = record sampling_map { samples = record { event = tick; input = codes "level"; at = address } ∷ [] }

pub sample_and_open_must_differ : Names sampling four_words (sample_at 20) → ⊥
sample_and_open_must_differ it = it.code_differs.1.0.1.0 refl

pub sample_must_have_a_word : Names sampling four_words (sample_at 19) → ⊥
sample_must_have_a_word it = let e = it.code_is_there.1.1.1.0 in cc
