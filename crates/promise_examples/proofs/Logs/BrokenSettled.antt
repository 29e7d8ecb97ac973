-- Logs that haven't settled: for each clause of `Settled` one that breaks it alone.
use Rattle.std.specs.Prelude.{true, false, [], ◌∷◌}
use Rattle.std.proofs.Common.{◌≡◌, refl}
use Rattle.pic_regs.specs.Registers.{flag}
use Rattle.pic_machine.specs.Run.{Log}
use Rattle.firmware_promises.specs.Counts.{chip_after, latched_count, commit_count}
use Rattle.firmware_promises.specs.Settled.{Settled}
use Rattle.promise_examples.proofs.Logs.Stories.{chip, ran, put, counting_map, tick_event}
use Rattle.promise_examples.proofs.Logs.GoodLog.{good, is_taken, clears_flag, opens_tick, commits_tick, rests}
use Rattle.promise_examples.proofs.Logs.Booted.{booted}

-- clear: after a reaction the flag stands again, and nothing was latched.
abbrev flagged : Log
flagged = booted (is_taken ∷ clears_flag ∷ opens_tick ∷ commits_tick ∷ ran (chip 22 false false 1) (chip 8 true true 1) ∷ []) rests

pub flag_must_be_clear : Settled counting_map flagged 7 → ⊥
flag_must_be_clear it = let e = it.clear.0 in cc

flagged_is_ready : (chip_after flagged 7).pc ≡ 8
flagged_is_ready = refl

flagged_has_reacted : commit_count counting_map flagged tick_event 7 ≡ latched_count flagged tick_event 7
flagged_has_reacted = refl

-- ready: all is done, but the chip isn't back at its ready address yet.
pub program_counter_must_be_ready : Settled counting_map good 6 → ⊥
program_counter_must_be_ready it = let e = it.ready in cc

not_back_is_clear : flag tick_event.source (chip_after good 6).regs ≡ false
not_back_is_clear = refl

not_back_has_reacted : commit_count counting_map good tick_event 6 ≡ latched_count good tick_event 6
not_back_has_reacted = refl

-- reacted: the flag was cleared and the chip went back without a reaction; and it reacted twice.
abbrev drops : Log
drops = booted (is_taken ∷ ran (chip 4 false true 0) (chip 8 true false 0) ∷ []) (ran (chip 8 true false 0) (chip 8 true false 0))

pub latch_must_commit : Settled counting_map drops 4 → ⊥
latch_must_commit it = let e = it.reacted.0 in cc

drops_is_clear : flag tick_event.source (chip_after drops 4).regs ≡ false
drops_is_clear = refl

drops_is_ready : (chip_after drops 4).pc ≡ 8
drops_is_ready = refl

abbrev reacts_twice : Log
reacts_twice = booted (is_taken ∷ clears_flag ∷ opens_tick ∷ put 1 (chip 21 false false 1) (chip 20 false false 1)
    ∷ ran (chip 20 false false 1) (chip 21 false false 2) ∷ put 2 (chip 21 false false 2) (chip 8 true false 2) ∷ []) (ran (chip 8 true false 2) (chip 8 true false 2))

pub second_commit_is_too_much : Settled counting_map reacts_twice 8 → ⊥
second_commit_is_too_much it = let e = it.reacted.0 in cc
