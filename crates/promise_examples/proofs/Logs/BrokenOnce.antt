-- Logs in which a latch is lost, or reacts without need: `Once` doesn't hold.
use Rattle.std.specs.Prelude.{ℕ, true, false, [], ◌∷◌}
use Rattle.std.proofs.Common.{inl, inr}
use Rattle.firmware_promises.specs.Once.{Once, Waits, GoesOn}
use Rattle.pic_machine.specs.Run.{Log}
use Rattle.promise_examples.proofs.Logs.Stories.{chip, ran, put, met, counting_map, tick_event}
use Rattle.promise_examples.proofs.Logs.GoodLog.{is_taken, clears_flag, opens_tick, commits_tick, rests}
use Rattle.promise_examples.proofs.Logs.Booted.{booted}

-- An event that neither waits nor goes on.
neither : (log : Log) (n : ℕ) → (Waits counting_map log tick_event n → ⊥) → (GoesOn counting_map log tick_event n → ⊥) → Once counting_map log n → ⊥
neither log n no_waits no_goes_on it = elim it.0 [ inl waits ↦ no_waits waits | inr goes_on ↦ no_goes_on goes_on ]

-- One clearing, and two commits.
abbrev reacts_twice : Log
reacts_twice = booted (is_taken ∷ clears_flag ∷ opens_tick ∷ commits_tick
    ∷ ran (chip 22 false false 1) (chip 20 false false 1) ∷ ran (chip 20 false false 1) (chip 21 false false 2)
    ∷ put 2 (chip 21 false false 2) (chip 8 true false 2) ∷ []) rests

pub no_second_reaction : Once counting_map reacts_twice 9 → ⊥
no_second_reaction = neither reacts_twice 9 (λ it. let e = it.committed in cc) (λ it. let e = it.under_way in cc)

-- A commit while the flag still stands: the latch waits, and has committed.
abbrev leaves_the_flag : Log
leaves_the_flag = booted (is_taken ∷ ran (chip 4 false true 0) (chip 20 false true 0)
    ∷ ran (chip 20 false true 0) (chip 21 false true 1) ∷ put 1 (chip 21 false true 1) (chip 22 false true 1) ∷ []) rests

pub no_reaction_before_the_clearing : Once counting_map leaves_the_flag 6 → ⊥
no_reaction_before_the_clearing = neither leaves_the_flag 6 (λ it. let e = it.committed in cc) (λ it. let e = it.under_way in cc)

-- Two clearings, and no commit.
abbrev clears_twice : Log
clears_twice = booted (is_taken ∷ ran (chip 4 false true 0) (chip 8 true false 0) ∷ is_taken ∷ ran (chip 4 false true 0) (chip 8 true false 0) ∷ []) rests

pub no_second_clearing : Once counting_map clears_twice 6 → ⊥
no_second_clearing = neither clears_twice 6 (λ it. let e = it.committed in cc) (λ it. let e = it.under_way in cc)

-- A latch whose flag doesn't stand, and a flag that no latch set. Cleared and committed agree in both.
abbrev loses_a_latch : Log
loses_a_latch = booted (met (chip 8 false false 0) (chip 8 false false 0) (chip 8 false false 0) ∷ []) rests

pub no_latch_is_lost : Once counting_map loses_a_latch 3 → ⊥
no_latch_is_lost = neither loses_a_latch 3 (λ it. let e = it.accounted in cc) (λ it. let e = it.accounted in cc)

abbrev flags_by_itself : Log
flags_by_itself = booted (ran (chip 8 false false 0) (chip 8 false true 0) ∷ []) rests

pub no_flag_without_a_latch : Once counting_map flags_by_itself 3 → ⊥
no_flag_without_a_latch = neither flags_by_itself 3 (λ it. let e = it.accounted in cc) (λ it. let e = it.accounted in cc)
