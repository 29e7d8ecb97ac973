-- Logs whose states or port writes aren't those of the serial run: for the clauses `states` and `puts` of `Follows`.
-- The first of each breaks that clause alone: `GoodFollows` has the other clauses for any count and any byte.
use Rattle.std.specs.Prelude.{codes, ℕ, zero, suc, ◌<◌, true, false, List, [], ◌∷◌, ◌++◌, take, Some}
use Rattle.std.specs.List.{flat_map}
use Rattle.std.proofs.Common.{◌≡◌, refl, inl, inr, arith, subst, ap}
use Rattle.efrp_meaning.specs.Meaning.{Reaction, react}
use Rattle.efrp_meaning.proofs.Examples.Programs.{tick, setup}
use Rattle.pic_machine.specs.declared.steps.PortWrite.{PortWrite}
use Rattle.pic_machine.specs.Boundary.{Step}
use Rattle.pic_machine.specs.Run.{Log}
use Rattle.firmware_promises.specs.Ready.{ShowsReady}
use Rattle.firmware_promises.specs.Follows.{StatesAreSerial, PutsAreSerial, setup_puts, reaction_puts}
use Rattle.promise_examples.proofs.Logs.Stories.{chip, ran, put, put_at, told, counting, counting_map}
use Rattle.promise_examples.proofs.Logs.GoodLog.{reacting, reaction, rests_with, write_of, boots, is_taken, clears_flag, opens_tick, commits_tick, returns, rests}
use Rattle.promise_examples.proofs.Logs.Booted.{booted, ready_at}

-- states: the commit leaves the old count. The other clauses hold of this log, with the count 0.
pub commit_must_store : StatesAreSerial counting counting_map (reacting 0 1) 6 → ⊥
commit_must_store it = let e = it 2 6 (ready_at (reaction 0 1) (rests_with 0) 6 (omega arith)) (omega arith) (omega arith) refl in cc

-- The reaction as it is in the good log, but for its commit.
abbrev with_commit : Step → List Step
with_commit commit = is_taken ∷ clears_flag ∷ opens_tick ∷ commit ∷ returns ∷ []

-- After a good reaction the count changes, outside a window.
abbrev changes : Step
changes = ran (chip 8 true false 1) (chip 8 true false 2)

pub states_must_stay : StatesAreSerial counting counting_map (booted (with_commit commits_tick) changes) 8 → ⊥
states_must_stay it = let e = it 2 8 (ready_at (with_commit commits_tick) changes 8 (omega arith)) (omega arith) (omega arith) refl in cc

-- The boot leaves another state than the initial one.
abbrev wrong_start : Log
wrong_start = told (boots ∷ ran (chip 1 false false 238) (chip 8 true false 238) ∷ []) (ran (chip 8 true false 238) (chip 8 true false 238))

wrong_start_before : (k : ℕ) → k < 2 → ShowsReady counting_map wrong_start 2 k → ⊥
wrong_start_before zero h (inl s) = let e = s.1 in cc
wrong_start_before zero h (inr s) = let e = s.1 in cc
wrong_start_before (suc zero) h (inl s) = let e = s.1 in cc
wrong_start_before (suc zero) h (inr s) = let e = s.1 in cc
wrong_start_before (suc (suc k)) h s = omega arith

pub boot_must_set_states : StatesAreSerial counting counting_map wrong_start 2 → ⊥
boot_must_set_states it = let e = it 2 2 (record { shown = inl (omega arith, refl); least = wrong_start_before }) (omega arith) (omega arith) refl in cc

-- puts: after one commit and in no window the port was given 7 and then 1.
-- The ports and bytes of writes, one after the other.
abbrev numbers : List PortWrite → List ℕ
numbers [] = []
numbers (w ∷ ws) = w.port ∷ w.byte ∷ numbers ws

abbrev Apart : List ℕ → List ℕ → Type 0
Apart a b = a ≡ b → ⊥

one_commit : (writes : List PortWrite) (values : List (List ℕ)) → Some ((1 ∷ []) ∷ []) ≡ Some values
    → writes ≡ setup_puts counting ++ (flat_map (reaction_puts counting) values ++ []) → numbers writes ≡ 1 ∷ 7 ∷ 1 ∷ 1 ∷ []
one_commit writes values e it =
    let same : values ≡ (1 ∷ []) ∷ [] = cc in
    ap numbers (subst (λ (v : List (List ℕ)). writes ≡ setup_puts counting ++ (flat_map (reaction_puts counting) v ++ [])) same it)

-- Another byte, of which the other clauses hold too, another port, no write, and the write twice.
another_byte : Apart (1 ∷ 7 ∷ 1 ∷ 9 ∷ []) (1 ∷ 7 ∷ 1 ∷ 1 ∷ [])
another_byte e = cc

another_port : Apart (1 ∷ 7 ∷ 2 ∷ 1 ∷ []) (1 ∷ 7 ∷ 1 ∷ 1 ∷ [])
another_port e = cc

no_write : Apart (1 ∷ 7 ∷ []) (1 ∷ 7 ∷ 1 ∷ 1 ∷ [])
no_write e = cc

two_writes : Apart (1 ∷ 7 ∷ 1 ∷ 1 ∷ 1 ∷ 1 ∷ []) (1 ∷ 7 ∷ 1 ∷ 1 ∷ [])
two_writes e = cc

pub byte_must_be_right : PutsAreSerial counting counting_map (reacting 1 9) 6 → ⊥
byte_must_be_right it =
    let puts = (it 2 6 (ready_at (reaction 1 9) rests 6 (omega arith)) (omega arith) (omega arith)).0 refl in
    another_byte (one_commit (write_of 1 7 ∷ write_of 1 9 ∷ []) puts.0 puts.1 puts.2)

abbrev puts_on_c : List Step
puts_on_c = with_commit (put_at 2 1 (chip 21 false false 1) (chip 22 false false 1))

pub port_must_be_right : PutsAreSerial counting counting_map (booted puts_on_c rests) 6 → ⊥
port_must_be_right it =
    let puts = (it 2 6 (ready_at puts_on_c rests 6 (omega arith)) (omega arith) (omega arith)).0 refl in
    another_port (one_commit (write_of 1 7 ∷ write_of 2 1 ∷ []) puts.0 puts.1 puts.2)

abbrev puts_nothing : List Step
puts_nothing = with_commit (ran (chip 21 false false 1) (chip 22 false false 1))

pub write_must_come : PutsAreSerial counting counting_map (booted puts_nothing rests) 6 → ⊥
write_must_come it =
    let puts = (it 2 6 (ready_at puts_nothing rests 6 (omega arith)) (omega arith) (omega arith)).0 refl in
    no_write (one_commit (write_of 1 7 ∷ []) puts.0 puts.1 puts.2)

abbrev puts_again : Step
puts_again = put 1 (chip 8 true false 1) (chip 8 true false 1)

pub write_must_come_once : PutsAreSerial counting counting_map (booted (with_commit commits_tick) puts_again) 8 → ⊥
write_must_come_once it =
    let puts = (it 2 8 (ready_at (with_commit commits_tick) puts_again 8 (omega arith)) (omega arith) (omega arith)).0 refl in
    two_writes (one_commit (write_of 1 7 ∷ write_of 1 1 ∷ write_of 1 1 ∷ []) puts.0 puts.1 puts.2)

-- In a window: the open itself puts 9, and what was put after 5 steps is no prefix of 7 and 1.
abbrev puts_inside : List Step
puts_inside = is_taken ∷ clears_flag ∷ put 9 (chip 20 false false 0) (chip 21 false false 1) ∷ commits_tick ∷ returns ∷ []

abbrev with_nine : List PortWrite
with_nine = write_of 1 7 ∷ write_of 1 9 ∷ []

nothing_then : Apart (1 ∷ 7 ∷ 1 ∷ 9 ∷ []) (1 ∷ 7 ∷ [])
nothing_then e = cc

one_then : (more : List ℕ) → Apart (1 ∷ 7 ∷ 1 ∷ 9 ∷ []) (1 ∷ 7 ∷ 1 ∷ 1 ∷ more)
one_then more e = cc

prefix : (i : ℕ) → with_nine ≡ write_of 1 7 ∷ take i (write_of 1 1 ∷ []) → ⊥
prefix zero e = nothing_then (ap numbers e)
prefix (suc i) e = one_then (numbers (take i [])) (ap numbers e)

in_window : (state : List ℕ) (reaction : Reaction) (i : ℕ) (values : List (List ℕ)) → Some (0 ∷ []) ≡ Some state
    → react counting state [] tick ≡ Some reaction → Some [] ≡ Some values
    → with_nine ≡ setup_puts counting ++ (flat_map (reaction_puts counting) values ++ take i (reaction_puts counting reaction.ports)) → ⊥
in_window state reaction i values e f g it =
    let none : values ≡ [] = cc in
    let old : state ≡ 0 ∷ [] = cc in
    let react_is : Some (record { state = 1 ∷ []; ports = 1 ∷ [] }) ≡ Some reaction = subst (λ (s : List ℕ). react counting s [] tick ≡ Some reaction) old f in
    let the_reaction : reaction ≡ record { state = 1 ∷ []; ports = 1 ∷ [] } = cc in
    prefix i (
    subst (λ (r : Reaction). with_nine ≡ setup_puts counting ++ ([] ++ take i (reaction_puts counting r.ports))) the_reaction (
    subst (λ (v : List (List ℕ)). with_nine ≡ setup_puts counting ++ (flat_map (reaction_puts counting) v ++ take i (reaction_puts counting reaction.ports))) none it))

pub writes_in_a_window_must_be_a_prefix : PutsAreSerial counting counting_map (booted puts_inside rests) 5 → ⊥
writes_in_a_window_must_be_a_prefix it =
    let puts = (it 2 5 (ready_at puts_inside rests 5 (omega arith)) (omega arith) (omega arith)).1 tick refl in
    in_window puts.0 puts.1 puts.2 puts.5.0 puts.3 puts.4 puts.5.1 puts.5.2

-- A setup of a register that is no port puts nothing, whatever its byte: what stands there is asked apart, in SetupsStand.
pub setup_of_tris_puts_nothing : (byte : ℕ) → setup_puts (record counting { setups = setup (codes "PORTB") 7 ∷ setup (codes "TRISB") byte ∷ [] }) ≡ setup_puts counting
setup_of_tris_puts_nothing byte = refl
