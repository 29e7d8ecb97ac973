-- Interrupts that are taken one instruction late.
use Rattle.std.specs.Prelude.{ℕ}
use Rattle.std.proofs.Common.{◌≡◌, refl, true, false}
use Rattle.pic_machine.specs.declared.steps.Did.TheVariants.{Took, Ran}
use Rattle.pic_machine.specs.Chip.{Chip}
use Rattle.pic_machine.specs.Boundary.{Step, no_outer, boundary}
use Rattle.pic_machine.proofs.SettingFacts.{fresh, with_pc, with_byte, at}

-- A chip at 0123h with GIE and INT's enable and flag set, and one where no interrupt is requested.
abbrev asked : Chip
asked = with_pc 0x0123 (with_byte 0x00B 0x92 fresh)

abbrev quiet : Chip
quiet = with_pc 0x0123 fresh

-- A boundary where a word stands, with nothing late and with what is requested late.
abbrev next : ℕ → Chip → Step
next word c = boundary (λ address. word) no_outer c

abbrev late : ℕ → Chip → Step
late word c = boundary (λ address. word) (record no_outer { late = true }) c

-- At 2C04h, GOTO 404h: the jump is made, and then the interrupt is taken there.
goto_runs : (late 0x2C04 asked).did ≡ Ran 0x0123 0x2C04
goto_runs = refl

goto_is_followed : (late 0x2C04 asked).after.pc ≡ 0x0404
goto_is_followed = refl

goto_leaves_it_due : (late 0x2C04 asked).after.due ≡ true
goto_leaves_it_due = refl

goto_is_interrupted : (next 0x0000 (late 0x2C04 asked).after).did ≡ Took
goto_is_interrupted = refl

goto_goes_on_there : (next 0x0000 (late 0x2C04 asked).after).after.stack 0 ≡ 0x0404
goto_goes_on_there = refl

taking_leaves_none_due : (next 0x0000 (late 0x2C04 asked).after).after.due ≡ false
taking_leaves_none_due = refl

-- At 138Bh, BCF INTCON,7: the interrupt is taken although GIE is clear.
gie_is_cleared : at 0x00B (late 0x138B asked).after ≡ 0x12
gie_is_cleared = refl

taken_with_gie_clear : (next 0x0000 (late 0x138B asked).after).did ≡ Took
taken_with_gie_clear = refl

taken_after_the_clearing : (next 0x0000 (late 0x138B asked).after).after.stack 0 ≡ 0x0124
taken_after_the_clearing = refl

gie_stays_clear : at 0x00B (next 0x0000 (late 0x138B asked).after).after ≡ 0x12
gie_stays_clear = refl

-- At 108Bh, BCF INTCON,1: the interrupt is taken although its flag is clear.
taken_with_the_flag_clear : (next 0x0000 (late 0x108B asked).after).did ≡ Took
taken_with_the_flag_clear = refl

-- At 0009h, RETFIE, with 0456h on the return stack: it returns, and the interrupt is taken there.
abbrev called : Chip
called = record asked { stack = λ place. 0x0456; top = 1; depth = 1 }

retfie_returns : (late 0x0009 called).after.pc ≡ 0x0456
retfie_returns = refl

retfie_pops : (late 0x0009 called).after.depth ≡ 0
retfie_pops = refl

retfie_is_interrupted : (next 0x0000 (late 0x0009 called).after).did ≡ Took
retfie_is_interrupted = refl

retfie_goes_on_there : (next 0x0000 (late 0x0009 called).after).after.stack 0 ≡ 0x0456
retfie_goes_on_there = refl

-- At 1C20h, BTFSS 20h,0, which skips where the bit is set: the address after the skipped instruction is pushed.
abbrev skips : Chip
skips = with_byte 0x020 0x01 asked

skip_is_made : (late 0x1C20 skips).after.pc ≡ 0x0125
skip_is_made = refl

skip_is_interrupted : (next 0x0000 (late 0x1C20 skips).after).after.stack 0 ≡ 0x0125
skip_is_interrupted = refl

-- Where no instruction can run the interrupt is taken at once: 0063h is SLEEP, 0062h no instruction.
taken_at_sleep : (late 0x0063 asked).did ≡ Took
taken_at_sleep = refl

sleep_is_next : (late 0x0063 asked).after.stack 0 ≡ 0x0123
sleep_is_next = refl

none_due_at_sleep : (late 0x0063 asked).after.due ≡ false
none_due_at_sleep = refl

taken_at_an_unknown_word : (late 0x0062 asked).did ≡ Took
taken_at_an_unknown_word = refl

-- Late twice in a row: an interrupt that is due is taken all the same, once.
late_once : (late 0x0000 (late 0x0000 asked).after).did ≡ Took
late_once = refl

late_once_goes_on_there : (late 0x0000 (late 0x0000 asked).after).after.stack 0 ≡ 0x0124
late_once_goes_on_there = refl

then_the_handler : (late 0x0000 (late 0x0000 (late 0x0000 asked).after).after).did ≡ Ran 0x0004 0x0000
then_the_handler = refl

-- One that is due is taken whatever is requested, and at SLEEP too.
due_alone : (late 0x0063 (record quiet { due = true })).did ≡ Took
due_alone = refl

-- Without a request nothing is late.
nothing_to_be_late : (late 0x0000 quiet).did ≡ Ran 0x0123 0x0000
nothing_to_be_late = refl

nothing_is_due : (late 0x0000 quiet).after.due ≡ false
nothing_is_due = refl
