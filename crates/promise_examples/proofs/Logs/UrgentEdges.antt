-- The bounds of `Urgent`, each at its edge: what comes at the last step that is allowed is kept, and one step later broken.
-- Off is 108 for the program of one counter.
use Rattle.std.specs.Prelude.{ℕ, zero, suc, ◌+◌, ◌<◌, ◌≤◌, Bool, true, false, List, [], ◌∷◌, ◌++◌, replicate}
use Rattle.std.proofs.Common.{◌≡◌, refl, ap, ◌∙◌, sym, arith}
use Rattle.pic_machine.specs.Boundary.{Step}
use Rattle.pic_machine.specs.Run.{Log}
use Rattle.firmware_promises.specs.Counts.{interrupts_on}
use Rattle.firmware_promises.specs.Urgent.{InterruptsComeOn, Listens, NoneUrgentUnderWay, WorkIsOpen, AtOne, asks_for_opening, gives_opening}
use Rattle.promise_examples.proofs.Logs.Stories.{chip, ran, told, counting, counting_map}
use Rattle.promise_examples.proofs.Logs.GoodLog.{is_taken, clears_flag, rests}
use Rattle.promise_examples.proofs.Logs.Booted.{booted, ready_at, ready_from}
use Rattle.promise_examples.proofs.Logs.Edges.{told_first, opening, working, committing}

-- The ready boundary is 2. GIE is off at n boundaries from there, and then on.
abbrev deaf : Step
deaf = ran (chip 8 false false 0) (chip 8 false false 0)

abbrev idle : Step
idle = ran (chip 8 true false 0) (chip 8 true false 0)

abbrev deaf_for : ℕ → Log
deaf_for n = booted (replicate n deaf ++ []) idle

on_after : (n k : ℕ) → n ≤ k → interrupts_on (told (replicate n deaf ++ []) idle k) ≡ true
on_after zero k h = refl
on_after (suc n) zero h = absurd (omega arith)
on_after (suc n) (suc k) h = on_after n k (omega arith)

on_within : (s : ℕ) → 2 ≤ s → AtOne counting (deaf_for 108) s interrupts_on
on_within zero h = absurd (omega arith)
on_within (suc zero) h = absurd (omega arith)
on_within (suc (suc s)) h = (suc (suc (s + 108)), omega arith, omega arith, on_after 108 (s + 108) (omega arith))

pub off_at_108_boundaries_is_allowed : (m : ℕ) → InterruptsComeOn counting counting_map (deaf_for 108) m
off_at_108_boundaries_is_allowed m s stretch = on_within s (let h = ready_from (replicate 108 deaf ++ []) idle m stretch.0 stretch.1 in omega arith)

pub off_at_109_boundaries_is_too_long : InterruptsComeOn counting counting_map (deaf_for 109) 200 → ⊥
off_at_109_boundaries_is_too_long it = let one = it 2 (2, ready_at (replicate 109 deaf ++ []) idle 200 (omega arith), omega arith, omega arith) in at one.0 one.1 one.2 one.3
  where
    at : (k : ℕ) → 2 ≤ k → k ≤ 110 → interrupts_on (deaf_for 109 k) ≡ true → ⊥
    at zero h to e = omega arith
    at (suc zero) h to e = omega arith
    at (suc (suc k)) h to e = let no : ◌≡◌ {A = Bool} false true = sym (ap interrupts_on (told_first deaf idle [] 109 k (omega arith))) ∙ e in cc

-- Step 2 has GIE on and takes nothing. GIE is off at the n steps behind it, and then an event opens.
abbrev busy : Step
busy = ran (chip 25 false false 0) (chip 25 false false 0)

abbrev opens_at_last : Step
opens_at_last = ran (chip 20 false false 0) (chip 25 false false 0)

abbrev stays_busy : ℕ → Log
stays_busy n = booted (ran (chip 8 true false 0) (chip 25 false false 0) ∷ replicate n busy ++ opens_at_last ∷ []) busy

asks_no_more : (n k : ℕ) → asks_for_opening counting_map (told (replicate n busy ++ opens_at_last ∷ []) busy k) ≡ false
asks_no_more zero zero = refl
asks_no_more zero (suc k) = refl
asks_no_more (suc n) zero = refl
asks_no_more (suc n) (suc k) = asks_no_more n k

pub open_after_16_steps_is_in_time : (m : ℕ) → WorkIsOpen counting_map (stays_busy 15) m
open_after_16_steps_is_in_time m zero h asked = absurd cc
open_after_16_steps_is_in_time m (suc zero) h asked = absurd cc
open_after_16_steps_is_in_time m (suc (suc zero)) h asked = (18, omega arith, omega arith, refl)
open_after_16_steps_is_in_time m (suc (suc (suc k))) h asked = absurd (let no : ◌≡◌ {A = Bool} false true = sym (asks_no_more 15 k) ∙ asked in cc)

pub open_after_17_steps_is_late : WorkIsOpen counting_map (stays_busy 16) 20 → ⊥
open_after_17_steps_is_late it = let one = it 2 (omega arith) refl in at one.0 one.1 one.2 one.3
  where
    at : (j : ℕ) → 2 < j → j ≤ 18 → gives_opening counting_map (stays_busy 16 j) ≡ true → ⊥
    at zero h to e = omega arith
    at (suc zero) h to e = omega arith
    at (suc (suc zero)) h to e = omega arith
    at (suc (suc (suc k))) h to e = let no : ◌≡◌ {A = Bool} false true = sym (ap (gives_opening counting_map) (told_first busy busy (opens_at_last ∷ []) 16 k (omega arith))) ∙ e in cc

-- A long window: GIE is off at the boundaries 4 to 112, while Tick is under way. `interrupts_off` is broken, and `listening` is
-- not. Where a long stretch with GIE off has no event under way, `listening` falls with `interrupts_off`.
abbrev long_work : List Step
long_work = is_taken ∷ clears_flag ∷ opening ∷ replicate 107 working ++ committing ∷ []

abbrev long_window : Log
long_window = booted long_work rests

off_within : (n k : ℕ) → k ≤ n → interrupts_on (told (replicate n working ++ committing ∷ []) rests k) ≡ false
off_within zero zero h = refl
off_within zero (suc k) h = absurd (omega arith)
off_within (suc n) zero h = refl
off_within (suc n) (suc k) h = off_within n k (omega arith)

pub long_window_is_off_too_long : InterruptsComeOn counting counting_map long_window 113 → ⊥
long_window_is_off_too_long it = let one = it 4 (2, ready_at long_work rests 113 (omega arith), omega arith, omega arith) in at one.0 one.1 one.2 one.3
  where
    at : (k : ℕ) → 4 ≤ k → k ≤ 112 → interrupts_on (long_window k) ≡ true → ⊥
    at zero h to e = omega arith
    at (suc zero) h to e = omega arith
    at (suc (suc zero)) h to e = omega arith
    at (suc (suc (suc zero))) h to e = omega arith
    at (suc (suc (suc (suc zero)))) h to e = cc
    at (suc (suc (suc (suc (suc k))))) h to e = let no : ◌≡◌ {A = Bool} false true = sym (off_within 107 k (omega arith)) ∙ e in cc

is_at_work : (s : ℕ) → 2 ≤ s → s ≤ 4 → NoneUrgentUnderWay counting counting_map long_window s 1 → ⊥
is_at_work s from to none = let e : ◌≡◌ {A = Bool} true false = (none 5 (omega arith) (omega arith)).0 (omega arith) in cc

pub long_window_listens : Listens counting counting_map long_window 113
long_window_listens s stretch =
    let from = ready_from long_work rests 113 stretch.0 stretch.1 in
    ((λ none. absurd (is_at_work s (omega arith) (omega arith) none)), tt)
