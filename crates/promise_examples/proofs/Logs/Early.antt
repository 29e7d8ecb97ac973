-- A Tick that comes during the boot is cleared, opened and committed before the ready boundary, which is 4. The log breaks the
-- clause `quiet` of `Follows` alone.
use Rattle.std.specs.Prelude.{ℕ, zero, suc, ◌<◌, ◌≤◌, true, false, List, [], ◌∷◌, ◌++◌, map}
use Rattle.std.proofs.Common.{◌≡◌, refl, sym, ◌∙◌, inl, inr, arith, append-nil, ap}
use Rattle.efrp_meaning.proofs.Examples.Programs.{tick}
use Rattle.pic_machine.specs.Run.{Log}
use Rattle.firmware_promises.specs.Counts.{opens, commits, port_writes, reactions}
use Rattle.firmware_promises.specs.Ready.{ShowsReady, ReadyAt}
use Rattle.firmware_promises.specs.Follows.{ReadyInTime, BootIsQuiet, Alternates, NoTakingInside, ClosesInTime, StatesAreSerial, PutsAreSerial, BootPutsSetups, WindowsAreSampled, Window}
use Rattle.firmware_promises.specs.Laws.{unsampled}
use Rattle.firmware_promises.proofs.SampleLaws.{reactions_are_commits, windows_are_sampled}
use Rattle.promise_examples.proofs.Logs.Stories.{chip, put, met, told, counting, counting_map}
use Rattle.promise_examples.proofs.Logs.GoodLog.{opens_tick, rests, write_of}

abbrev early : Log
early = told (
    met (chip 0 false false 238) (chip 0 false true 238) (chip 1 false true 238)
    ∷ put 7 (chip 1 false true 238) (chip 20 false false 0)
    ∷ opens_tick
    ∷ put 1 (chip 21 false false 1) (chip 8 true false 1) ∷ []) rests

not_before : (n k : ℕ) → k < 4 → ShowsReady counting_map early n k → ⊥
not_before n zero h (inl s) = let e = s.1 in cc
not_before n zero h (inr s) = let e = s.1 in cc
not_before n (suc zero) h (inl s) = let e = s.1 in cc
not_before n (suc zero) h (inr s) = let e = s.1 in cc
not_before n (suc (suc zero)) h (inl s) = let e = s.1 in cc
not_before n (suc (suc zero)) h (inr s) = let e = s.1 in cc
not_before n (suc (suc (suc zero))) h (inl s) = let e = s.1 in cc
not_before n (suc (suc (suc zero))) h (inr s) = let e = s.1 in cc
not_before n (suc (suc (suc (suc k)))) h s = omega arith

pub no_open_in_the_boot : BootIsQuiet counting_map early 3 → ⊥
no_open_in_the_boot it = let one = it 2 (omega arith) (λ j at_most. not_before 3 j (omega arith)) in let e = one.1 in cc

pub no_commit_in_the_boot : BootIsQuiet counting_map early 4 → ⊥
no_commit_in_the_boot it = let one = it 3 (omega arith) (λ j at_most. not_before 4 j (omega arith)) in let e = one.2 in cc

ready_from : (n r : ℕ) → ReadyAt counting_map early n r → 4 ≤ r
ready_from n zero is_it = absurd (not_before n zero (omega arith) is_it.shown)
ready_from n (suc zero) is_it = absurd (not_before n (suc zero) (omega arith) is_it.shown)
ready_from n (suc (suc zero)) is_it = absurd (not_before n (suc (suc zero)) (omega arith) is_it.shown)
ready_from n (suc (suc (suc zero))) is_it = absurd (not_before n (suc (suc (suc zero))) (omega arith) is_it.shown)
ready_from n (suc (suc (suc (suc r)))) is_it = omega arith

abbrev past : ℕ → ℕ
past k = suc (suc (suc (suc k)))

opens_past : (k : ℕ) → opens counting_map early (past k) ≡ tick ∷ []
opens_past zero = refl
opens_past (suc k) = rw append-nil (opens_past k)

commits_past : (k : ℕ) → commits counting_map early (past k) ≡ tick ∷ []
commits_past zero = refl
commits_past (suc k) = rw append-nil (commits_past k)

reactions_past : (k : ℕ) → reactions counting counting_map early (past k) ≡ unsampled tick ∷ []
reactions_past k = reactions_are_commits counting counting_map early refl (past k) ∙ ap (map unsampled) (commits_past k)

writes_past : (k : ℕ) → port_writes early (past k) ≡ write_of 1 7 ∷ write_of 1 1 ∷ []
writes_past zero = refl
writes_past (suc k) = rw append-nil (writes_past k)

in_time : (n : ℕ) → ReadyInTime counting counting_map early n
in_time n h = (4, omega arith, record { shown = inl (omega arith, refl); least = not_before n })

turns : (n : ℕ) → Alternates counting_map early n
turns n zero h = inl refl
turns n (suc zero) h = inl refl
turns n (suc (suc zero)) h = inl refl
turns n (suc (suc (suc zero))) h = inr (tick, refl)
turns n (suc (suc (suc (suc k)))) h = inl (opens_past k ∙ sym (commits_past k))

undisturbed : (n : ℕ) → NoTakingInside counting_map early n
undisturbed n zero e h is_open = refl
undisturbed n (suc zero) e h is_open = refl
undisturbed n (suc (suc zero)) e h is_open = refl
undisturbed n (suc (suc (suc zero))) e h is_open = refl
undisturbed n (suc (suc (suc (suc k)))) e h is_open = refl

closes : (n : ℕ) → ClosesInTime counting counting_map early n
closes n zero e h is_open = absurd cc
closes n (suc zero) e h is_open = absurd cc
closes n (suc (suc zero)) e h is_open = (3, omega arith, omega arith, is_open)
closes n (suc (suc (suc zero))) e h is_open = absurd cc
closes n (suc (suc (suc (suc k)))) e h is_open = absurd cc

states : (n : ℕ) → StatesAreSerial counting counting_map early n
states n r zero is_it from to none = absurd (let at_least = ready_from n r is_it in omega arith)
states n r (suc zero) is_it from to none = absurd (let at_least = ready_from n r is_it in omega arith)
states n r (suc (suc zero)) is_it from to none = absurd (let at_least = ready_from n r is_it in omega arith)
states n r (suc (suc (suc zero))) is_it from to none = absurd (let at_least = ready_from n r is_it in omega arith)
states n r (suc (suc (suc (suc zero)))) is_it from to none = refl
states n r (suc (suc (suc (suc (suc k))))) is_it from to none = rw (reactions_past (suc k)) refl

not_open_past : (k : ℕ) (e : List ℕ) → Window counting_map early (past k) e → ⊥
not_open_past k e is_open =
    let one : tick ∷ [] ≡ (tick ∷ []) ++ e ∷ [] = sym (opens_past k) ∙ is_open ∙ rw (commits_past k) refl in cc

puts : (n : ℕ) → PutsAreSerial counting counting_map early n
puts n r zero is_it from to = absurd (let at_least = ready_from n r is_it in omega arith)
puts n r (suc zero) is_it from to = absurd (let at_least = ready_from n r is_it in omega arith)
puts n r (suc (suc zero)) is_it from to = absurd (let at_least = ready_from n r is_it in omega arith)
puts n r (suc (suc (suc zero))) is_it from to = absurd (let at_least = ready_from n r is_it in omega arith)
puts n r (suc (suc (suc (suc k)))) is_it from to =
    ((λ none. ((1 ∷ []) ∷ [], rw (reactions_past k) refl, writes_past k)), λ e is_open. absurd (not_open_past k e is_open))

setups : (n : ℕ) → BootPutsSetups counting counting_map early n
setups n zero h before = (0, refl)
setups n (suc zero) h before = (0, refl)
setups n (suc (suc zero)) h before = (1, refl)
setups n (suc (suc (suc zero))) h before = (1, refl)
setups n (suc (suc (suc (suc k)))) h before = absurd (before 4 (omega arith) (inl (omega arith, refl)))

samples : (n : ℕ) → WindowsAreSampled counting counting_map early n
samples n = windows_are_sampled counting counting_map early refl n
