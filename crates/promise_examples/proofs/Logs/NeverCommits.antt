-- What opened never commits: step 4 opens, and Off is 108. The log breaks the clause `closes` of `Follows` alone.
use Rattle.std.specs.Prelude.{ℕ, zero, suc, ◌<◌, ◌≤◌, false, List, [], ◌∷◌, ◌++◌, map}
use Rattle.std.proofs.Common.{◌≡◌, refl, sym, ◌∙◌, inl, inr, arith, append-nil, ap}
use Rattle.efrp_meaning.proofs.Examples.Programs.{tick}
use Rattle.pic_machine.specs.Boundary.{Step}
use Rattle.pic_machine.specs.Run.{Log}
use Rattle.firmware_promises.specs.Counts.{opens, commits, port_writes, committed_by, reactions}
use Rattle.firmware_promises.specs.Ready.{ReadyAt, BeforeReady}
use Rattle.firmware_promises.specs.Follows.{ReadyInTime, BootIsQuiet, Alternates, NoTakingInside, ClosesInTime, StatesAreSerial, PutsAreSerial, BootPutsSetups, WindowsAreSampled, NoWindow, Window}
use Rattle.firmware_promises.specs.Laws.{unsampled}
use Rattle.firmware_promises.proofs.SampleLaws.{no_samples, reactions_are_commits, windows_are_sampled}
use Rattle.promise_examples.proofs.Logs.Stories.{chip, ran, counting, counting_map}
use Rattle.promise_examples.proofs.Logs.GoodLog.{is_taken, clears_flag, write_of}
use Rattle.promise_examples.proofs.Logs.Booted.{booted, ready_at, ready_from}

abbrev rest : Step
rest = ran (chip 22 false false 1) (chip 22 false false 1)

abbrev steps : List Step
steps = is_taken ∷ clears_flag ∷ ran (chip 20 false false 0) (chip 22 false false 1) ∷ []

abbrev never_commits : Log
never_commits = booted steps rest

at_two : (n r : ℕ) → ReadyAt counting_map never_commits n r → 2 ≤ r
at_two n r is_it = ready_from steps rest n r is_it

before_ready : (n k : ℕ) → k ≤ n → 2 ≤ k → BeforeReady counting_map never_commits n k → ⊥
before_ready n k at_most h before = before 2 h (inl (omega arith, refl))

abbrev past : ℕ → ℕ
past k = suc (suc (suc (suc (suc k))))

opens_past : (k : ℕ) → opens counting_map never_commits (past k) ≡ tick ∷ []
opens_past zero = refl
opens_past (suc k) = rw append-nil (opens_past k)

commits_past : (k : ℕ) → commits counting_map never_commits (past k) ≡ []
commits_past zero = refl
commits_past (suc k) = rw append-nil (commits_past k)

reactions_past : (k : ℕ) → reactions counting counting_map never_commits (past k) ≡ []
reactions_past k = reactions_are_commits counting counting_map never_commits refl (past k) ∙ ap (map unsampled) (commits_past k)

writes_past : (k : ℕ) → port_writes never_commits (past k) ≡ write_of 1 7 ∷ []
writes_past zero = refl
writes_past (suc k) = rw append-nil (writes_past k)

in_time : (n : ℕ) → ReadyInTime counting counting_map never_commits n
in_time n h = (2, omega arith, ready_at steps rest n (omega arith))

quiet : (n : ℕ) → BootIsQuiet counting_map never_commits n
quiet n zero h before = (refl, refl, refl)
quiet n (suc zero) h before = (refl, refl, refl)
quiet n (suc (suc k)) h before = absurd (before_ready n (suc (suc k)) (omega arith) (omega arith) before)

pub window_must_close : ClosesInTime counting counting_map never_commits 113 → ⊥
window_must_close it = let one = it 4 tick (omega arith) refl in at one.0 one.1 one.3
  where
    at : (t : ℕ) → 4 < t → committed_by counting_map (never_commits t) ≡ tick ∷ [] → ⊥
    at zero h e = omega arith
    at (suc zero) h e = omega arith
    at (suc (suc zero)) h e = omega arith
    at (suc (suc (suc zero))) h e = omega arith
    at (suc (suc (suc (suc zero)))) h e = omega arith
    at (suc (suc (suc (suc (suc t))))) h e = cc

turns : (n : ℕ) → Alternates counting_map never_commits n
turns n zero h = inl refl
turns n (suc zero) h = inl refl
turns n (suc (suc zero)) h = inl refl
turns n (suc (suc (suc zero))) h = inl refl
turns n (suc (suc (suc (suc zero)))) h = inl refl
turns n (suc (suc (suc (suc (suc k))))) h = inr (tick, opens_past k ∙ sym (rw (commits_past k) refl))

undisturbed : (n : ℕ) → NoTakingInside counting_map never_commits n
undisturbed n zero e h is_open = refl
undisturbed n (suc zero) e h is_open = refl
undisturbed n (suc (suc zero)) e h is_open = absurd (let e : [] ≡ e ∷ [] = is_open in cc)
undisturbed n (suc (suc (suc zero))) e h is_open = refl
undisturbed n (suc (suc (suc (suc zero)))) e h is_open = refl
undisturbed n (suc (suc (suc (suc (suc k))))) e h is_open = refl

some_window : (k : ℕ) → NoWindow counting_map never_commits (past k) → ⊥
some_window k none = let e : tick ∷ [] ≡ [] = sym (opens_past k) ∙ none ∙ commits_past k in cc

states : (n : ℕ) → StatesAreSerial counting counting_map never_commits n
states n r zero is_it from to none = absurd (let at_least = at_two n r is_it in omega arith)
states n r (suc zero) is_it from to none = absurd (let at_least = at_two n r is_it in omega arith)
states n r (suc (suc zero)) is_it from to none = refl
states n r (suc (suc (suc zero))) is_it from to none = refl
states n r (suc (suc (suc (suc zero)))) is_it from to none = refl
states n r (suc (suc (suc (suc (suc k))))) is_it from to none = absurd (some_window k none)

window_of : (k : ℕ) (e : List ℕ) → Window counting_map never_commits (past k) e → e ≡ tick
window_of k e is_open = let it : tick ∷ [] ≡ [] ++ e ∷ [] = sym (opens_past k) ∙ is_open ∙ rw (commits_past k) refl in cc

puts : (n : ℕ) → PutsAreSerial counting counting_map never_commits n
puts n r zero is_it from to = absurd (let at_least = at_two n r is_it in omega arith)
puts n r (suc zero) is_it from to = absurd (let at_least = at_two n r is_it in omega arith)
puts n r (suc (suc zero)) is_it from to = ((λ none. ([], refl, refl)), λ e is_open. absurd (let e : [] ≡ e ∷ [] = is_open in cc))
puts n r (suc (suc (suc zero))) is_it from to = ((λ none. ([], refl, refl)), λ e is_open. absurd (let e : [] ≡ e ∷ [] = is_open in cc))
puts n r (suc (suc (suc (suc zero)))) is_it from to = ((λ none. ([], refl, refl)), λ e is_open. absurd (let e : [] ≡ e ∷ [] = is_open in cc))
puts n r (suc (suc (suc (suc (suc k))))) is_it from to = (
  (λ none. absurd (some_window k none)),
  λ e is_open. (0 ∷ [], record { state = 1 ∷ []; ports = 1 ∷ [] }, 0, rw (reactions_past k) refl, rw (no_samples counting counting_map never_commits refl e (past k), window_of k e is_open) refl, ([], rw (reactions_past k) refl, writes_past k)),
)

setups : (n : ℕ) → BootPutsSetups counting counting_map never_commits n
setups n zero h before = (0, refl)
setups n (suc zero) h before = (1, refl)
setups n (suc (suc k)) h before = absurd (before_ready n (suc (suc k)) (omega arith) (omega arith) before)

samples : (n : ℕ) → WindowsAreSampled counting counting_map never_commits n
samples n = windows_are_sampled counting counting_map never_commits refl n
