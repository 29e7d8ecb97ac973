-- Maps that keep the rules, and what breaks a rule.
use Rattle.std.proofs.Common.{◌≡◌, ℕ, true, false, List, [], ◌∷◌, IsTrue, codes, refl, arith}
use Rattle.text_parts.specs.Names.{is_name}
use Rattle.frp_tree.specs.declared.syntax.Ty.TheVariants as ty
use Rattle.pic_isa.specs.declared.sources.Source.{Source}
use Rattle.pic_isa.specs.declared.sources.Source.TheVariants as source
use Rattle.map_file.specs.declared.maps.MapEvent.{MapEvent}
use Rattle.map_file.specs.MapRules.{IsMap, IsEvent, IsSample, IsState, RangesRise, names_event}
use Rattle.map_file.proofs.Examples.Texts.{range, state, sample, counter, empty, wide, flag, sampling, full}

pub counter_keeps_the_rules : IsMap counter
counter_keeps_the_rules = search (arith)

pub empty_keeps_the_rules : IsMap empty
empty_keeps_the_rules = search (arith)

wide_keeps_the_rules : IsMap wide
wide_keeps_the_rules = search (arith)

flag_keeps_the_rules : IsMap flag
flag_keeps_the_rules = search (arith)

-- With one port twice, a state at one address, a state that is named as a keyword, and samples in another order than the
-- events.
full_keeps_the_rules : IsMap full
full_keeps_the_rules = search (arith)

sampling_keeps_the_rules : IsMap sampling
sampling_keeps_the_rules = search (arith)

an_event_and_a_state_may_have_one_name : IsMap (record counter { states = state (codes "Tick") ty.U8 0x20 0x20 ∷ [] })
an_event_and_a_state_may_have_one_name = search (arith)

abbrev event : List ℕ → Source → ℕ → ℕ → ℕ → MapEvent
event name source priority opens commits = record { name = name; source = source; priority = priority; «open» = opens; commit = commits }

open_and_commit_may_be_equal : IsEvent (event (codes "A") source.T0 1 5 5)
open_and_commit_may_be_equal = search (arith)

priority_0_breaks_a_rule : IsEvent (event (codes "A") source.T0 0 5 6) → ⊥
priority_0_breaks_a_rule rules = omega arith

priority_12_breaks_a_rule : IsEvent (event (codes "A") source.T0 12 5 6) → ⊥
priority_12_breaks_a_rule rules = omega arith

address_2000h_breaks_a_rule : IsEvent (event (codes "A") source.T0 1 5 0x2000) → ⊥
address_2000h_breaks_a_rule rules = omega arith

address_200h_breaks_a_rule : IsState (state (codes "n") ty.U16 0 0x200) → ⊥
address_200h_breaks_a_rule rules = omega arith

byte_with_two_addresses_breaks_a_rule : IsState (state (codes "n") ty.U8 0x20 0x21) → ⊥
byte_with_two_addresses_breaks_a_rule rules = omega arith

events_of_one_name_break_a_rule : IsMap (record empty { events = event (codes "A") source.T0 1 5 6 ∷ event (codes "B") source.Int 1 5 6 ∷ event (codes "A") source.Ad 1 5 6 ∷ [] }) → ⊥
events_of_one_name_break_a_rule rules = rules.event_names.0.1.0 refl

events_of_one_source_break_a_rule : IsMap (record empty { events = event (codes "A") source.T0 1 5 6 ∷ event (codes "B") source.T0 1 5 6 ∷ [] }) → ⊥
events_of_one_source_break_a_rule rules = rules.sources.0.0 refl

states_of_one_name_break_a_rule : IsMap (record empty { states = state (codes "n") ty.U8 5 5 ∷ state (codes "n") ty.Bool 6 6 ∷ [] }) → ⊥
states_of_one_name_break_a_rule rules = rules.state_names.0.0 refl

port_5_breaks_a_rule : IsMap (record empty { outputs = 5 ∷ [] }) → ⊥
port_5_breaks_a_rule rules = omega arith

six_outputs_break_a_rule : IsMap (record empty { outputs = 0 ∷ 0 ∷ 0 ∷ 0 ∷ 0 ∷ 0 ∷ [] }) → ⊥
six_outputs_break_a_rule rules = omega arith

an_event_may_sample_two_inputs : IsMap (record counter { samples = sample (codes "Tick") (codes "a") 5 ∷ sample (codes "Tick") (codes "b") 5 ∷ [] })
an_event_may_sample_two_inputs = search (arith)

sample_of_an_unknown_event_breaks_a_rule : IsMap (record counter { samples = sample (codes "Tock") (codes "level") 0x12 ∷ [] }) → ⊥
sample_of_an_unknown_event_breaks_a_rule rules = let known : IsTrue (names_event counter.events (codes "Tock")) = rules.samples.0.event in cc known

sample_without_an_event_breaks_a_rule : IsMap (record empty { samples = sample (codes "Tick") (codes "level") 0x12 ∷ [] }) → ⊥
sample_without_an_event_breaks_a_rule rules = let known : IsTrue (names_event [] (codes "Tick")) = rules.samples.0.event in cc known

pair_named_twice_breaks_a_rule : IsMap (record counter { samples = sample (codes "Tick") (codes "a") 5 ∷ sample (codes "Tick") (codes "b") 6 ∷ sample (codes "Tick") (codes "a") 7 ∷ [] }) → ⊥
pair_named_twice_breaks_a_rule rules = rules.sample_pairs.0.1.0 refl

input_with_a_space_breaks_a_rule : IsSample counter.events (sample (codes "Tick") (codes "a b") 5) → ⊥
input_with_a_space_breaks_a_rule rules = let form : IsTrue (is_name (codes "a b")) = rules.input in cc form

sample_at_2000h_breaks_a_rule : IsSample counter.events (sample (codes "Tick") (codes "level") 0x2000) → ⊥
sample_at_2000h_breaks_a_rule rules = omega arith

ranges_one_apart_keep_the_rules : RangesRise 0 (range 0 5 ∷ range 7 7 ∷ [])
ranges_one_apart_keep_the_rules = search (arith)

ranges_that_touch_break_a_rule : RangesRise 0 (range 0 5 ∷ range 6 7 ∷ []) → ⊥
ranges_that_touch_break_a_rule rules = omega arith

ranges_that_overlap_break_a_rule : RangesRise 0 (range 0 5 ∷ range 5 7 ∷ []) → ⊥
ranges_that_overlap_break_a_rule rules = omega arith

ranges_that_fall_break_a_rule : RangesRise 0 (range 8 9 ∷ range 0 5 ∷ []) → ⊥
ranges_that_fall_break_a_rule rules = omega arith

first_address_above_the_last_breaks_a_rule : RangesRise 0 (range 6 5 ∷ []) → ⊥
first_address_above_the_last_breaks_a_rule rules = omega arith

name_of_31_bytes : is_name (codes "a234567890123456789012345678901") ≡ true
name_of_31_bytes = refl

no_name_of_32_bytes : is_name (codes "a2345678901234567890123456789012") ≡ false
no_name_of_32_bytes = refl

no_name_that_begins_with_a_digit : is_name (codes "9a") ≡ false
no_name_that_begins_with_a_digit = refl

no_name_with_a_space : is_name (codes "a b") ≡ false
no_name_with_a_space = refl

no_name_without_a_byte : is_name (codes "") ≡ false
no_name_without_a_byte = refl
