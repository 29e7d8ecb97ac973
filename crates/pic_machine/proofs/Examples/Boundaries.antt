-- Boundaries: arrivals, takings, instructions and stops.
use Rattle.std.specs.Prelude.{ℕ}
use Rattle.std.proofs.Common.{◌≡◌, refl, None}
use Rattle.pic_regs.specs.Arrivals.{set_of}
use Rattle.pic_machine.specs.declared.steps.Did.TheVariants.{Took, Ran, Stopped}
use Rattle.pic_machine.specs.declared.steps.Why.TheVariants.{UnknownWord, Sleep}
use Rattle.pic_machine.specs.declared.steps.Stepped.{Stepped}
use Rattle.pic_machine.specs.declared.steps.Did.{Did}
use Rattle.pic_machine.specs.Chip.{Chip}
use Rattle.pic_machine.specs.Boundary.{Step, no_outer, boundary, stepped}
use Rattle.pic_machine.proofs.SettingFacts.{fresh, with_w, with_pc, with_byte, at}

-- A chip at 0123h with INTCON, PIE1 and PIE2 given, and a boundary of it where a word stands and sources arrive.
abbrev chip : ℕ → ℕ → ℕ → Chip
chip intcon pie1 pie2 = with_pc 0x0123 (with_byte 0x00B intcon (with_byte 0x08C pie1 (with_byte 0x08D pie2 fresh)))

abbrev step : ℕ → ℕ → Chip → Step
step word arrivals c = boundary (λ address. word) (record no_outer { arrivals = set_of arrivals }) c

abbrev nothing_written : ℕ → ℕ → Did → Stepped
nothing_written those these what = record { latched = those; merged = these; did = what; wrote = None; port = None }

-- A disabled flag is set; 0000h is NOP, and INT is 2.
disabled_flag_is_set : stepped (step 0x0000 2 (chip 0x80 0 0)) ≡ nothing_written 2 0 (Ran 0x0123 0x0000)
disabled_flag_is_set = refl

disabled_flag_stands : at 0x00B (step 0x0000 2 (chip 0x80 0 0)).after ≡ 0x82
disabled_flag_stands = refl

-- An arrival that finds its flag set.
arrival_merges : stepped (step 0x0000 2 (chip 0x02 0 0)) ≡ nothing_written 0 2 (Ran 0x0123 0x0000)
arrival_merges = refl

one_merges_and_one_is_latched : stepped (step 0x0000 3 (chip 0x02 0 0)) ≡ nothing_written 1 2 (Ran 0x0123 0x0000)
one_merges_and_one_is_latched = refl

-- A merged arrival asks as the first one did.
merged_and_taken : stepped (step 0x0000 2 (chip 0x92 0 0)) ≡ nothing_written 0 2 Took
merged_and_taken = refl

-- An arrival comes before the instruction: 108Bh, BCF INTCON,1, clears the flag that it just set.
cleared_in_the_same_step : at 0x00B (step 0x108B 2 (chip 0x00 0 0)).after ≡ 0x00
cleared_in_the_same_step = refl

-- A taking wins over the instruction, which doesn't run: 305Ah is MOVLW 5Ah.
taking_wins : stepped (step 0x305A 2 (chip 0x90 0 0)) ≡ nothing_written 2 0 Took
taking_wins = refl

abbrev taken : Chip
taken = (step 0x305A 2 (with_w 0x11 (chip 0x90 0 0))).after

taking_goes_to_4 : taken.pc ≡ 0x0004
taking_goes_to_4 = refl

taking_pushes_the_next_address : taken.stack 0 ≡ 0x0123
taking_pushes_the_next_address = refl

taking_raises_the_depth : taken.depth ≡ 1
taking_raises_the_depth = refl

taking_clears_gie_alone : at 0x00B taken ≡ 0x12
taking_clears_gie_alone = refl

taking_leaves_the_registers : taken.w ≡ (with_w 0x11 fresh).w
taking_leaves_the_registers = refl

-- It wins over SLEEP and over an unknown word too.
taking_wins_over_sleep : (step 0x0063 2 (chip 0x90 0 0)).did ≡ Took
taking_wins_over_sleep = refl

-- Sources: T0 (1) in INTCON, TMR1 (128) in PIR1, CCP2 (1024) in PIR2, with PEIE off and on.
t0_is_taken : (step 0x0000 1 (chip 0xA0 0 0)).did ≡ Took
t0_is_taken = refl

tmr1_waits_without_peie : (step 0x0000 128 (chip 0x80 0x01 0)).did ≡ Ran 0x0123 0x0000
tmr1_waits_without_peie = refl

tmr1_is_taken_with_peie : (step 0x0000 128 (chip 0xC0 0x01 0)).did ≡ Took
tmr1_is_taken_with_peie = refl

ccp2_waits_without_peie : (step 0x0000 1024 (chip 0x80 0 0x01)).did ≡ Ran 0x0123 0x0000
ccp2_waits_without_peie = refl

ccp2_is_taken_with_peie : (step 0x0000 1024 (chip 0xC0 0 0x01)).did ≡ Took
ccp2_is_taken_with_peie = refl

another_enable_does_not_help : (step 0x0000 128 (chip 0xC0 0xFE 0xFF)).did ≡ Ran 0x0123 0x0000
another_enable_does_not_help = refl

-- RB's flag, set by the firmware itself, is taken as well.
rb_is_taken : (step 0x0000 0 (chip 0x89 0 0)).did ≡ Took
rb_is_taken = refl

-- Stops. Only the arrivals' flags change.
sleep_stops : stepped (step 0x0063 2 (chip 0x00 0 0)) ≡ nothing_written 2 0 (Stopped 0x0123 Sleep)
sleep_stops = refl

unknown_word_stops : stepped (step 0x0062 0 (chip 0x00 0 0)) ≡ nothing_written 0 0 (Stopped 0x0123 UnknownWord)
unknown_word_stops = refl

stop_leaves_the_arrivals : (step 0x0063 2 (chip 0x00 0 0)).after ≡ (step 0x0063 2 (chip 0x00 0 0)).arrived
stop_leaves_the_arrivals = refl

stop_sets_the_flag : at 0x00B (step 0x0063 2 (chip 0x00 0 0)).after ≡ 0x02
stop_sets_the_flag = refl
