-- The bounds on the ready boundary and on a window, each at its edge: what comes at the last step that is allowed is kept, and one step later broken.
-- Boot is 60 and Off is 108 for the program of one counter.
use Rattle.std.specs.Prelude.{ℕ, zero, suc, ◌<◌, ◌≤◌, Bool, true, false, List, [], ◌∷◌, ◌++◌, replicate}
use Rattle.std.proofs.Common.{◌≡◌, refl, ap, ◌∙◌, sym, inl, inr, arith}
use Rattle.efrp_meaning.proofs.Examples.Programs.{tick}
use Rattle.pic_machine.specs.Boundary.{Step}
use Rattle.pic_machine.specs.Run.{Log}
use Rattle.firmware_promises.specs.Counts.{takes, opened_by, committed_by}
use Rattle.firmware_promises.specs.Ready.{ShowsReady, ReadyAt}
use Rattle.firmware_promises.specs.Follows.{ReadyInTime, ClosesInTime}
use Rattle.promise_examples.proofs.Logs.Stories.{chip, ran, put, told, counting, counting_map}
use Rattle.promise_examples.proofs.Logs.GoodLog.{is_taken, clears_flag, rests}
use Rattle.promise_examples.proofs.Logs.Booted.{booted}

-- A log that begins with n equal steps.
pub told_first : (s rest : Step) (more : List Step) (n k : ℕ) → k < n → told (replicate n s ++ more) rest k ≡ s
told_first s rest more zero k h = absurd (omega arith)
told_first s rest more (suc n) zero h = refl
told_first s rest more (suc n) (suc k) h = told_first s rest more n k (omega arith)

told_next : (s t rest : Step) (n : ℕ) → told (replicate n s ++ t ∷ []) rest n ≡ t
told_next s t rest zero = refl
told_next s t rest (suc n) = told_next s t rest n

-- The ready boundary is n + 1.
abbrev booting : Step
booting = ran (chip 0 false false 238) (chip 0 false false 238)

abbrev arriving : Step
arriving = ran (chip 0 false false 238) (chip 8 true false 0)

abbrev idle : Step
idle = ran (chip 8 true false 0) (chip 8 true false 0)

abbrev late : ℕ → Log
late n = told (replicate n booting ++ arriving ∷ []) idle

takes_none : (n k : ℕ) → takes (late n k) ≡ false
takes_none zero zero = refl
takes_none zero (suc k) = refl
takes_none (suc n) zero = refl
takes_none (suc n) (suc k) = takes_none n k

late_before : (n m k : ℕ) → k ≤ n → ShowsReady counting_map (late n) m k → ⊥
late_before zero m zero h (inl s) = let e = s.1 in cc
late_before (suc n) m zero h (inl s) = let e = s.1 in cc
late_before n m (suc k) h (inl s) = let e : ◌≡◌ {A = ℕ} 0 8 = sym (ap (λ (t : Step). t.after.pc) (told_first booting idle (arriving ∷ []) n k (omega arith))) ∙ s.1 in cc
late_before n m k h (inr s) = let e : ◌≡◌ {A = Bool} false true = sym (takes_none n k) ∙ s.1 in cc

late_at : (m : ℕ) → 62 ≤ m → ReadyAt counting_map (late 61) m 62
late_at m h = record { shown = inl (h, refl); least = λ k below. late_before 61 m k (omega arith) }

pub ready_at_62_is_in_time : (m : ℕ) → ReadyInTime counting counting_map (late 61) m
ready_at_62_is_in_time m h = (62, omega arith, late_at m (omega arith))

pub ready_at_63_is_late : ReadyInTime counting counting_map (late 62) 63 → ⊥
ready_at_63_is_late it = let one = it (omega arith) in late_before 62 63 one.0 one.1 one.2.shown

-- Step 4 opens, n steps follow, and step n + 5 commits.
abbrev pub opening : Step
opening = ran (chip 20 false false 0) (chip 22 false false 1)

abbrev pub working : Step
working = ran (chip 22 false false 1) (chip 22 false false 1)

abbrev pub committing : Step
committing = put 1 (chip 21 false false 1) (chip 8 true false 1)

abbrev work : ℕ → ℕ → Step
work n = told (replicate n working ++ committing ∷ []) rests

abbrev pub commits_after : ℕ → Log
commits_after n = booted (is_taken ∷ clears_flag ∷ opening ∷ replicate n working ++ committing ∷ []) rests

opens_none : (n k : ℕ) → opened_by counting_map (work n k) ≡ []
opens_none zero zero = refl
opens_none zero (suc k) = refl
opens_none (suc n) zero = refl
opens_none (suc n) (suc k) = opens_none n k

pub commit_after_108_is_in_time : (m : ℕ) → ClosesInTime counting counting_map (commits_after 107) m
commit_after_108_is_in_time m zero e h is_open = absurd cc
commit_after_108_is_in_time m (suc zero) e h is_open = absurd cc
commit_after_108_is_in_time m (suc (suc zero)) e h is_open = absurd cc
commit_after_108_is_in_time m (suc (suc (suc zero))) e h is_open = absurd cc
commit_after_108_is_in_time m (suc (suc (suc (suc zero)))) e h is_open = (112, omega arith, omega arith, is_open)
commit_after_108_is_in_time m (suc (suc (suc (suc (suc k))))) e h is_open = absurd (let no : [] ≡ e ∷ [] = sym (opens_none 107 k) ∙ is_open in cc)

pub commit_after_109_is_late : ClosesInTime counting counting_map (commits_after 108) 114 → ⊥
commit_after_109_is_late it = let one = it 4 tick (omega arith) refl in at one.0 one.1 one.2 one.3
  where
    at : (t : ℕ) → 4 < t → t ≤ 112 → committed_by counting_map (commits_after 108 t) ≡ tick ∷ [] → ⊥
    at zero h to e = omega arith
    at (suc zero) h to e = omega arith
    at (suc (suc zero)) h to e = omega arith
    at (suc (suc (suc zero))) h to e = omega arith
    at (suc (suc (suc (suc zero)))) h to e = omega arith
    at (suc (suc (suc (suc (suc k))))) h to e =
        let no : [] ≡ tick ∷ [] = sym (ap (committed_by counting_map) (told_first working rests (committing ∷ []) 108 k (omega arith))) ∙ e in cc
