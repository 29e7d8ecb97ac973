-- An interrupt is taken between the open and the commit. The log breaks the clause `undisturbed` of `Follows` alone.
use Rattle.std.specs.Prelude.{ℕ, zero, suc, ◌≤◌, true, false, List, [], ◌∷◌, ◌++◌, map}
use Rattle.std.proofs.Common.{◌≡◌, refl, sym, ◌∙◌, ap, inl, inr, arith, append-nil}
use Rattle.efrp_meaning.proofs.Examples.Programs.{tick}
use Rattle.pic_machine.specs.Boundary.{Step}
use Rattle.pic_machine.specs.Run.{Log}
use Rattle.firmware_promises.specs.Counts.{opens, commits, port_writes, reactions}
use Rattle.firmware_promises.specs.Ready.{ReadyAt, BeforeReady}
use Rattle.firmware_promises.specs.Follows.{ReadyInTime, BootIsQuiet, Alternates, NoTakingInside, ClosesInTime, StatesAreSerial, PutsAreSerial, BootPutsSetups, WindowsAreSampled, Window}
use Rattle.firmware_promises.specs.Laws.{unsampled}
use Rattle.firmware_promises.proofs.SampleLaws.{reactions_are_commits, windows_are_sampled}
use Rattle.promise_examples.proofs.Logs.Stories.{chip, ran, put, took, counting, counting_map}
use Rattle.promise_examples.proofs.Logs.GoodLog.{is_taken, clears_flag, write_of}
use Rattle.promise_examples.proofs.Logs.Booted.{booted, ready_at, ready_from}

abbrev rest : Step
rest = ran (chip 8 false true 1) (chip 8 false true 1)

abbrev steps : List Step
steps =
    is_taken ∷ clears_flag
    ∷ ran (chip 20 false false 0) (chip 21 true false 1)
    ∷ took (chip 21 true false 1) (chip 21 true true 1) (chip 4 false true 1)
    ∷ ran (chip 4 false true 1) (chip 21 false true 1)
    ∷ put 1 (chip 21 false true 1) (chip 8 false true 1) ∷ []

abbrev disturbed : Log
disturbed = booted steps rest

at_two : (n r : ℕ) → ReadyAt counting_map disturbed n r → 2 ≤ r
at_two n r is_it = ready_from steps rest n r is_it

before_ready : (n k : ℕ) → k ≤ n → 2 ≤ k → BeforeReady counting_map disturbed n k → ⊥
before_ready n k at_most h before = before 2 h (inl (omega arith, refl))

abbrev past : ℕ → ℕ
past k = suc (suc (suc (suc (suc (suc (suc (suc k)))))))

opens_past : (k : ℕ) → opens counting_map disturbed (past k) ≡ tick ∷ []
opens_past zero = refl
opens_past (suc k) = rw append-nil (opens_past k)

commits_past : (k : ℕ) → commits counting_map disturbed (past k) ≡ tick ∷ []
commits_past zero = refl
commits_past (suc k) = rw append-nil (commits_past k)

reactions_past : (k : ℕ) → reactions counting counting_map disturbed (past k) ≡ unsampled tick ∷ []
reactions_past k = reactions_are_commits counting counting_map disturbed refl (past k) ∙ ap (map unsampled) (commits_past k)

writes_past : (k : ℕ) → port_writes disturbed (past k) ≡ write_of 1 7 ∷ write_of 1 1 ∷ []
writes_past zero = refl
writes_past (suc k) = rw append-nil (writes_past k)

in_time : (n : ℕ) → ReadyInTime counting counting_map disturbed n
in_time n h = (2, omega arith, ready_at steps rest n (omega arith))

quiet : (n : ℕ) → BootIsQuiet counting_map disturbed n
quiet n zero h before = (refl, refl, refl)
quiet n (suc zero) h before = (refl, refl, refl)
quiet n (suc (suc k)) h before = absurd (before_ready n (suc (suc k)) (omega arith) (omega arith) before)

pub no_taking_in_a_window : NoTakingInside counting_map disturbed 6 → ⊥
no_taking_in_a_window it = let e = it 5 tick (omega arith) refl in cc

turns : (n : ℕ) → Alternates counting_map disturbed n
turns n zero h = inl refl
turns n (suc zero) h = inl refl
turns n (suc (suc zero)) h = inl refl
turns n (suc (suc (suc zero))) h = inl refl
turns n (suc (suc (suc (suc zero)))) h = inl refl
turns n (suc (suc (suc (suc (suc zero))))) h = inr (tick, refl)
turns n (suc (suc (suc (suc (suc (suc zero)))))) h = inr (tick, refl)
turns n (suc (suc (suc (suc (suc (suc (suc zero))))))) h = inr (tick, refl)
turns n (suc (suc (suc (suc (suc (suc (suc (suc k)))))))) h = inl (opens_past k ∙ sym (commits_past k))

closes : (n : ℕ) → ClosesInTime counting counting_map disturbed n
closes n zero e h is_open = absurd cc
closes n (suc zero) e h is_open = absurd cc
closes n (suc (suc zero)) e h is_open = absurd cc
closes n (suc (suc (suc zero))) e h is_open = absurd cc
closes n (suc (suc (suc (suc zero)))) e h is_open = (7, omega arith, omega arith, is_open)
closes n (suc (suc (suc (suc (suc zero))))) e h is_open = absurd cc
closes n (suc (suc (suc (suc (suc (suc zero)))))) e h is_open = absurd cc
closes n (suc (suc (suc (suc (suc (suc (suc zero))))))) e h is_open = absurd cc
closes n (suc (suc (suc (suc (suc (suc (suc (suc k)))))))) e h is_open = absurd cc

states : (n : ℕ) → StatesAreSerial counting counting_map disturbed n
states n r zero is_it from to none = absurd (let at_least = at_two n r is_it in omega arith)
states n r (suc zero) is_it from to none = absurd (let at_least = at_two n r is_it in omega arith)
states n r (suc (suc zero)) is_it from to none = refl
states n r (suc (suc (suc zero))) is_it from to none = refl
states n r (suc (suc (suc (suc zero)))) is_it from to none = refl
states n r (suc (suc (suc (suc (suc zero))))) is_it from to none = absurd (let e : tick ∷ [] ≡ [] = none in cc)
states n r (suc (suc (suc (suc (suc (suc zero)))))) is_it from to none = absurd (let e : tick ∷ [] ≡ [] = none in cc)
states n r (suc (suc (suc (suc (suc (suc (suc zero))))))) is_it from to none = absurd (let e : tick ∷ [] ≡ [] = none in cc)
states n r (suc (suc (suc (suc (suc (suc (suc (suc zero)))))))) is_it from to none = refl
states n r (suc (suc (suc (suc (suc (suc (suc (suc (suc k))))))))) is_it from to none = rw (reactions_past (suc k)) refl

not_open_past : (k : ℕ) (e : List ℕ) → Window counting_map disturbed (past k) e → ⊥
not_open_past k e is_open = let one : tick ∷ [] ≡ (tick ∷ []) ++ e ∷ [] = sym (opens_past k) ∙ is_open ∙ rw (commits_past k) refl in cc

is_tick : (e : List ℕ) → tick ∷ [] ≡ e ∷ [] → e ≡ tick
is_tick e it = cc

puts : (n : ℕ) → PutsAreSerial counting counting_map disturbed n
puts n r zero is_it from to = absurd (let at_least = at_two n r is_it in omega arith)
puts n r (suc zero) is_it from to = absurd (let at_least = at_two n r is_it in omega arith)
puts n r (suc (suc zero)) is_it from to = ((λ none. ([], refl, refl)), λ e is_open. absurd (let e : [] ≡ e ∷ [] = is_open in cc))
puts n r (suc (suc (suc zero))) is_it from to = ((λ none. ([], refl, refl)), λ e is_open. absurd (let e : [] ≡ e ∷ [] = is_open in cc))
puts n r (suc (suc (suc (suc zero)))) is_it from to = ((λ none. ([], refl, refl)), λ e is_open. absurd (let e : [] ≡ e ∷ [] = is_open in cc))
puts n r (suc (suc (suc (suc (suc zero))))) is_it from to = ((λ none. absurd (let e : tick ∷ [] ≡ [] = none in cc)), λ e is_open. (0 ∷ [], record { state = 1 ∷ []; ports = 1 ∷ [] }, 0, refl, rw (is_tick e is_open) refl, ([], refl, refl)))
puts n r (suc (suc (suc (suc (suc (suc zero)))))) is_it from to = ((λ none. absurd (let e : tick ∷ [] ≡ [] = none in cc)), λ e is_open. (0 ∷ [], record { state = 1 ∷ []; ports = 1 ∷ [] }, 0, refl, rw (is_tick e is_open) refl, ([], refl, refl)))
puts n r (suc (suc (suc (suc (suc (suc (suc zero))))))) is_it from to = ((λ none. absurd (let e : tick ∷ [] ≡ [] = none in cc)), λ e is_open. (0 ∷ [], record { state = 1 ∷ []; ports = 1 ∷ [] }, 0, refl, rw (is_tick e is_open) refl, ([], refl, refl)))
puts n r (suc (suc (suc (suc (suc (suc (suc (suc k)))))))) is_it from to = ((λ none. ((1 ∷ []) ∷ [], rw (reactions_past k) refl, writes_past k)), λ e is_open. absurd (not_open_past k e is_open))

setups : (n : ℕ) → BootPutsSetups counting counting_map disturbed n
setups n zero h before = (0, refl)
setups n (suc zero) h before = (1, refl)
setups n (suc (suc k)) h before = absurd (before_ready n (suc (suc k)) (omega arith) (omega arith) before)

samples : (n : ℕ) → WindowsAreSampled counting counting_map disturbed n
samples n = windows_are_sampled counting counting_map disturbed refl n
