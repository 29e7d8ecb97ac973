-- A commit with no open before it. The log breaks the clause `turns` of `Follows` alone.
use Rattle.std.specs.Prelude.{ℕ, zero, suc, ◌≤◌, true, false, List, [], ◌∷◌, ◌++◌}
use Rattle.std.proofs.Common.{◌≡◌, refl, sym, ◌∙◌, inl, inr, arith, append-nil}
use Rattle.efrp_meaning.proofs.Examples.Programs.{tick}
use Rattle.pic_machine.specs.Boundary.{Step}
use Rattle.pic_machine.specs.Run.{Log}
use Rattle.firmware_promises.specs.Counts.{opens, commits, port_writes}
use Rattle.firmware_promises.specs.Ready.{ReadyAt, BeforeReady}
use Rattle.firmware_promises.specs.Follows.{ReadyInTime, BootIsQuiet, Alternates, NoTakingInside, ClosesInTime, StatesAreSerial, PutsAreSerial, BootPutsSetups, WindowsAreSampled, NoWindow, Window}
use Rattle.firmware_promises.proofs.SampleLaws.{windows_are_sampled}
use Rattle.promise_examples.proofs.Logs.Stories.{chip, ran, put, counting, counting_map}
use Rattle.promise_examples.proofs.Logs.GoodLog.{is_taken, clears_flag, opens_tick, commits_tick, returns, rests, write_of}
use Rattle.promise_examples.proofs.Logs.Booted.{booted, ready_at, ready_from}

abbrev rest : Step
rest = rests

abbrev steps : List Step
steps = ran (chip 8 true false 0) (chip 21 false false 0) ∷ put 1 (chip 21 false false 0) (chip 22 false false 1) ∷ returns ∷ []

abbrev commits_alone : Log
commits_alone = booted steps rest

at_two : (n r : ℕ) → ReadyAt counting_map commits_alone n r → 2 ≤ r
at_two n r is_it = ready_from steps rest n r is_it

before_ready : (n k : ℕ) → k ≤ n → 2 ≤ k → BeforeReady counting_map commits_alone n k → ⊥
before_ready n k at_most h before = before 2 h (inl (omega arith, refl))

abbrev past : ℕ → ℕ
past k = suc (suc (suc (suc (suc k))))

opens_past : (k : ℕ) → opens counting_map commits_alone (past k) ≡ []
opens_past zero = refl
opens_past (suc k) = rw append-nil (opens_past k)

commits_past : (k : ℕ) → commits counting_map commits_alone (past k) ≡ tick ∷ []
commits_past zero = refl
commits_past (suc k) = rw append-nil (commits_past k)

writes_past : (k : ℕ) → port_writes commits_alone (past k) ≡ write_of 1 7 ∷ write_of 1 1 ∷ []
writes_past zero = refl
writes_past (suc k) = rw append-nil (writes_past k)

in_time : (n : ℕ) → ReadyInTime counting counting_map commits_alone n
in_time n h = (2, omega arith, ready_at steps rest n (omega arith))

quiet : (n : ℕ) → BootIsQuiet counting_map commits_alone n
quiet n zero h before = (refl, refl, refl)
quiet n (suc zero) h before = (refl, refl, refl)
quiet n (suc (suc k)) h before = absurd (before_ready n (suc (suc k)) (omega arith) (omega arith) before)

pub commit_must_have_an_open : Alternates counting_map commits_alone 4 → ⊥
commit_must_have_an_open it =
    elim (it 4 (omega arith)) [ inl none ↦ (let e : [] ≡ tick ∷ [] = none in cc) | inr one ↦ (let e : [] ≡ (tick ∷ []) ++ one.0 ∷ [] = one.1 in cc) ]

undisturbed : (n : ℕ) → NoTakingInside counting_map commits_alone n
undisturbed n zero e h is_open = refl
undisturbed n (suc zero) e h is_open = refl
undisturbed n (suc (suc zero)) e h is_open = refl
undisturbed n (suc (suc (suc zero))) e h is_open = refl
undisturbed n (suc (suc (suc (suc zero)))) e h is_open = refl
undisturbed n (suc (suc (suc (suc (suc k))))) e h is_open = refl

closes : (n : ℕ) → ClosesInTime counting counting_map commits_alone n
closes n zero e h is_open = absurd cc
closes n (suc zero) e h is_open = absurd cc
closes n (suc (suc zero)) e h is_open = absurd cc
closes n (suc (suc (suc zero))) e h is_open = absurd cc
closes n (suc (suc (suc (suc zero)))) e h is_open = absurd cc
closes n (suc (suc (suc (suc (suc k))))) e h is_open = absurd cc

some_window : (k : ℕ) → NoWindow counting_map commits_alone (past k) → ⊥
some_window k none = let e : [] ≡ tick ∷ [] = sym (opens_past k) ∙ none ∙ commits_past k in cc

no_window_of : (k : ℕ) (e : List ℕ) → Window counting_map commits_alone (past k) e → ⊥
no_window_of k e is_open = let it : [] ≡ (tick ∷ []) ++ e ∷ [] = sym (opens_past k) ∙ is_open ∙ rw (commits_past k) refl in cc

states : (n : ℕ) → StatesAreSerial counting counting_map commits_alone n
states n r zero is_it from to none = absurd (let at_least = at_two n r is_it in omega arith)
states n r (suc zero) is_it from to none = absurd (let at_least = at_two n r is_it in omega arith)
states n r (suc (suc zero)) is_it from to none = refl
states n r (suc (suc (suc zero))) is_it from to none = refl
states n r (suc (suc (suc (suc zero)))) is_it from to none = absurd (let e : [] ≡ tick ∷ [] = none in cc)
states n r (suc (suc (suc (suc (suc k))))) is_it from to none = absurd (some_window k none)

puts : (n : ℕ) → PutsAreSerial counting counting_map commits_alone n
puts n r zero is_it from to = absurd (let at_least = at_two n r is_it in omega arith)
puts n r (suc zero) is_it from to = absurd (let at_least = at_two n r is_it in omega arith)
puts n r (suc (suc zero)) is_it from to = ((λ none. ([], refl, refl)), λ e is_open. absurd (let e : [] ≡ e ∷ [] = is_open in cc))
puts n r (suc (suc (suc zero))) is_it from to = ((λ none. ([], refl, refl)), λ e is_open. absurd (let e : [] ≡ e ∷ [] = is_open in cc))
puts n r (suc (suc (suc (suc zero)))) is_it from to = ((λ none. absurd (let e : [] ≡ tick ∷ [] = none in cc)), λ e is_open. absurd (let e : [] ≡ (tick ∷ []) ++ e ∷ [] = is_open in cc))
puts n r (suc (suc (suc (suc (suc k))))) is_it from to = ((λ none. absurd (some_window k none)), λ e is_open. absurd (no_window_of k e is_open))

setups : (n : ℕ) → BootPutsSetups counting counting_map commits_alone n
setups n zero h before = (0, refl)
setups n (suc zero) h before = (1, refl)
setups n (suc (suc k)) h before = absurd (before_ready n (suc (suc k)) (omega arith) (omega arith) before)

samples : (n : ℕ) → WindowsAreSampled counting counting_map commits_alone n
samples n = windows_are_sampled counting counting_map commits_alone refl n

-- Two opens with no commit between break it too.
abbrev opens_again : Log
opens_again = booted (is_taken ∷ clears_flag ∷ ran (chip 20 false false 0) (chip 20 false false 0) ∷ opens_tick ∷ commits_tick ∷ returns ∷ []) rests

pub no_open_in_a_window : Alternates counting_map opens_again 6 → ⊥
no_open_in_a_window it =
    elim (it 6 (omega arith)) [ inl none ↦ (let e : tick ∷ tick ∷ [] ≡ [] = none in cc) | inr one ↦ (let e : tick ∷ tick ∷ [] ≡ one.0 ∷ [] = one.1 in cc) ]
