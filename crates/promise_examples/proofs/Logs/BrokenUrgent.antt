-- Logs that aren't urgent: for each clause of `Urgent` one that breaks it.
use Rattle.std.specs.Prelude.{ℕ, zero, suc, ◌-◌, ◌<◌, ◌≤◌, true, false, [], ◌∷◌, ◌++◌, replicate}
use Rattle.std.proofs.Common.{◌≡◌, refl, arith, add-zero, append-nil}
use Rattle.pic_machine.specs.Boundary.{Step}
use Rattle.pic_machine.specs.Run.{Log}
use Rattle.firmware_promises.specs.Counts.{commits, cleared_count, is_under_way, interrupts_on}
use Rattle.firmware_promises.specs.Urgent.{NoOvertaking, InterruptsComeOn, Listens, WorkIsOpen, is_heard, gives_opening}
use Rattle.promise_examples.proofs.Logs.Stories.{chip, chip_of, intcon_of, ran, met, told, counting, counting_map, two_events, tick_event}
use Rattle.promise_examples.proofs.Logs.GoodLog.{is_taken, clears_flag}
use Rattle.promise_examples.proofs.Logs.Booted.{booted, ready_at}

-- no_overtaking: Tick, of priority 2, is latched at boundary 0, and Low, of priority 1, opens at step 16. The other clauses ask
-- nothing of this log, which is never ready and has GIE off.
abbrev waiting : Step
waiting = ran (chip 25 false true 0) (chip 25 false true 0)

abbrev overtakes_after : ℕ → Log
overtakes_after more =
    told (met (chip 25 false false 0) (chip 25 false true 0) (chip 25 false true 0) ∷ replicate more waiting ++ ran (chip 30 false true 0) (chip 31 false true 0) ∷ []) waiting

pub none_is_overtaken : NoOvertaking two_events (overtakes_after 15) 17 → ⊥
none_is_overtaken it = let h : 1 ≤ 0 = (it 16 (omega arith)).1.0.0 refl (omega arith) in omega arith

-- One step earlier it may: no boundary is 16 steps before step 15.
pub open_after_15_steps : NoOvertaking two_events (overtakes_after 14) 16
open_after_15_steps s h =
    let none : s - 15 ≡ 0 = omega arith in (
      ((λ ran higher. absurd (omega arith)), ((λ ran higher. absurd (omega arith)), tt)),
      (((λ ran higher. rw none (omega arith)), ((λ ran higher. absurd (omega arith)), tt)), tt),
    )

-- interrupts_off: the chip is ready after two steps, and GIE stays off at the 109 boundaries from there. `listening` falls with
-- it, since no event is under way.
abbrev deaf_rest : Step
deaf_rest = ran (chip 8 false false 0) (chip 8 false false 0)

abbrev deaf : Log
deaf = booted [] deaf_rest

pub interrupts_must_come_on : InterruptsComeOn counting counting_map deaf 111 → ⊥
interrupts_must_come_on it = let one = it 2 (2, ready_at [] deaf_rest 111 (omega arith), omega arith, omega arith) in at one.0 one.1 one.3
  where
    at : (k : ℕ) → 2 ≤ k → interrupts_on (deaf k) ≡ true → ⊥
    at zero h e = omega arith
    at (suc zero) h e = omega arith
    at (suc (suc k)) h e = cc

-- listening alone: GIE is on, but Tick's enable stays off, and Tick isn't under way.
abbrev ignoring : Step
ignoring = ran (chip_of 8 (intcon_of true false false) 0) (chip_of 8 (intcon_of true false false) 0)

abbrev ignores : Log
ignores = booted [] ignoring

none_cleared : (k : ℕ) → cleared_count ignores tick_event k ≡ 0
none_cleared zero = refl
none_cleared (suc zero) = refl
none_cleared (suc (suc zero)) = refl
none_cleared (suc (suc (suc k))) = rw add-zero (none_cleared (suc (suc k)))

none_committed : (k : ℕ) → commits counting_map ignores k ≡ []
none_committed zero = refl
none_committed (suc zero) = refl
none_committed (suc (suc zero)) = refl
none_committed (suc (suc (suc k))) = rw append-nil (none_committed (suc (suc k)))

none_under_way : (k : ℕ) → is_under_way counting_map ignores tick_event k ≡ false
none_under_way k = rw (none_cleared k, none_committed k) refl

pub event_must_be_heard : Listens counting counting_map ignores 111 → ⊥
event_must_be_heard it =
    let one = (it 2 (2, ready_at [] ignoring 111 (omega arith), omega arith, omega arith)).0 (λ k from to. ((λ at_least. none_under_way k), tt)) in at one.0 one.1 one.3
  where
    at : (k : ℕ) → 2 ≤ k → is_heard tick_event (ignores k) ≡ true → ⊥
    at zero h e = omega arith
    at (suc zero) h e = omega arith
    at (suc (suc k)) h e = cc

-- open_work: step 2 turns GIE off, and step 3 of the other log clears a flag. Nothing follows in 16 steps. So few steps make no
-- stretch, and the other clauses ask nothing.
abbrev busy : Step
busy = ran (chip 25 false false 0) (chip 25 false false 0)

abbrev turns_off : Log
turns_off = booted (ran (chip 8 true false 0) (chip 25 false false 0) ∷ []) busy

pub work_must_open : WorkIsOpen counting_map turns_off 19 → ⊥
work_must_open it = let one = it 2 (omega arith) refl in at one.0 one.1 one.3
  where
    at : (j : ℕ) → 2 < j → gives_opening counting_map (turns_off j) ≡ true → ⊥
    at zero h e = omega arith
    at (suc zero) h e = omega arith
    at (suc (suc zero)) h e = omega arith
    at (suc (suc (suc j))) h e = cc

abbrev takes_long : Log
takes_long = booted (is_taken ∷ clears_flag ∷ []) busy

pub work_must_open_after_a_clearing : WorkIsOpen counting_map takes_long 20 → ⊥
work_must_open_after_a_clearing it = let one = it 3 (omega arith) refl in at one.0 one.1 one.3
  where
    at : (j : ℕ) → 3 < j → gives_opening counting_map (takes_long j) ≡ true → ⊥
    at zero h e = omega arith
    at (suc zero) h e = omega arith
    at (suc (suc zero)) h e = omega arith
    at (suc (suc (suc zero))) h e = omega arith
    at (suc (suc (suc (suc j)))) h e = cc
