-- Two ticks, one after the other: the boot takes steps 0 to 8, and each reaction seven steps.
use Rattle.std.specs.Prelude.{[], ◌∷◌, map, Some}
use Rattle.std.proofs.Common.{◌≡◌, refl}
use Rattle.efrp_meaning.specs.Meaning.{state_after, ports_after}
use Rattle.efrp_meaning.proofs.Examples.Programs.{tick}
use Rattle.pic_machine.specs.declared.steps.Did.TheVariants.{Took, Ran}
use Rattle.firmware_promises.specs.Counts.{commits, opens, port_writes, reactions, chip_after, count, latched_count, cleared_count, commit_count}
use Rattle.firmware_promises.specs.Firmware.{count_below}
use Rattle.firmware_promises.specs.Follows.{reaction_puts}
use Rattle.pic_regs.specs.Registers.{byte_at}
use Rattle.firmware_promises.specs.MapNames.{states_in}
use Rattle.promise_examples.proofs.Runs.Counting.{program, image, counter_map, tick_event, two_ticks, puts, fits, writes_listed}

-- The words, as the data sheet writes MOVLW 0; MOVWF 20h; BSF STATUS,5; GOTO 00Ah, the handler, and the rest of the boot.
words_are : map (λ w. w.word) image.words
    ≡ 0x3000 ∷ 0x00A0 ∷ 0x1683 ∷ 0x280A ∷ 0x110B ∷ 0x3001 ∷ 0x0720 ∷ 0x00A0 ∷ 0x0087 ∷ 0x0009 ∷ 0x3000 ∷ 0x0087 ∷ 0x1283 ∷ 0x168B ∷ 0x178B ∷ 0x280F ∷ []
words_are = refl

-- The chip is ready after nine steps, and not after eight.
ready_after_9 : (chip_after two_ticks 9).pc ≡ counter_map.ready
ready_after_9 = refl

busy_after_8 : (chip_after two_ticks 8).pc ≡ 14
busy_after_8 = refl

-- What is set up stands.
tris_is_set_up : byte_at (chip_after two_ticks 9).regs 0x087 ≡ 0
tris_is_set_up = refl

-- INTCON has GIE and T0's enable.
interrupts_are_on : byte_at (chip_after two_ticks 9).regs 0x00B ≡ 0xA0
interrupts_are_on = refl

-- RAM is as it was at power-on, but for the state.
state_begins : states_in counter_map (chip_after two_ticks 9) ≡ 0 ∷ []
state_begins = refl

other_ram_stands : byte_at (chip_after two_ticks 9).regs 0x021 ≡ 0xFF
other_ram_stands = refl

-- The arrivals are taken where they come.
step_10_waits : (two_ticks 10).did ≡ Ran 15 0x280F
step_10_waits = refl

step_11_takes : (two_ticks 11).did ≡ Took
step_11_takes = refl

step_19_takes : (two_ticks 19).did ≡ Took
step_19_takes = refl

-- The first reaction opens at step 15, commits at step 16 and ends with step 17.
opens_before_15 : opens counter_map two_ticks 15 ≡ []
opens_before_15 = refl

opens_at_15 : opens counter_map two_ticks 16 ≡ tick ∷ []
opens_at_15 = refl

commits_before_16 : commits counter_map two_ticks 16 ≡ []
commits_before_16 = refl

commits_at_16 : commits counter_map two_ticks 17 ≡ tick ∷ []
commits_at_16 = refl

ready_after_18 : (chip_after two_ticks 18).pc ≡ counter_map.ready
ready_after_18 = refl

state_after_18 : states_in counter_map (chip_after two_ticks 18) ≡ 1 ∷ []
state_after_18 = refl

-- After 25 steps both have committed.
both_open : opens counter_map two_ticks 25 ≡ tick ∷ tick ∷ []
both_open = refl

both_commit : commits counter_map two_ticks 25 ≡ tick ∷ tick ∷ []
both_commit = refl

both_latched : latched_count two_ticks tick_event 25 ≡ 2
both_latched = refl

both_cleared : cleared_count two_ticks tick_event 25 ≡ 2
both_cleared = refl

both_counted : commit_count counter_map two_ticks tick_event 25 ≡ 2
both_counted = refl

port_shows_1_and_2 : port_writes two_ticks 25 ≡ puts 2 1 ∷ puts 2 2 ∷ []
port_shows_1_and_2 = refl

port_holds_2 : byte_at (chip_after two_ticks 25).regs 0x007 ≡ 2
port_holds_2 = refl

state_is_2 : states_in counter_map (chip_after two_ticks 25) ≡ 2 ∷ []
state_is_2 = refl

-- The serial run of the reactions has this state and these port values.
serial_state : state_after program (reactions program counter_map two_ticks 25) ≡ Some (states_in counter_map (chip_after two_ticks 25))
serial_state = refl

serial_ports : ports_after program (reactions program counter_map two_ticks 25) ≡ Some ((1 ∷ []) ∷ (2 ∷ []) ∷ [])
serial_ports = refl

puts_of_2 : reaction_puts program (2 ∷ []) ≡ puts 2 2 ∷ []
puts_of_2 = refl

-- After each of 0 to 26 steps the depth fits, and each of 27 steps writes a listed register, where it writes one.
depths_fit : count_below 27 (fits counter_map two_ticks) ≡ 27
unfolding count_below
depths_fit = refl

inside_is_1_deep : (chip_after two_ticks 12).depth ≡ 1
inside_is_1_deep = refl

writes_are_listed : count two_ticks (writes_listed counter_map) 27 ≡ 27
writes_are_listed = refl
