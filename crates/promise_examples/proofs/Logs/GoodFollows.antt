-- The good log follows its program, over its first n steps for every n. A wrong count is seen by `states` alone, and a wrong byte
-- on the port by `puts` alone: the other clauses hold with any count v and any byte b.
use Rattle.std.specs.Prelude.{ℕ, zero, suc, ◌≤◌, List, [], ◌∷◌, ◌++◌}
use Rattle.std.proofs.Common.{◌≡◌, refl, sym, ◌∙◌, inl, inr, arith}
use Rattle.efrp_meaning.proofs.Examples.Programs.{tick}
use Rattle.firmware_promises.specs.Ready.{ReadyAt, BeforeReady}
use Rattle.firmware_promises.specs.Follows.{Follows, ReadyInTime, BootIsQuiet, Alternates, NoTakingInside, ClosesInTime, StatesAreSerial, PutsAreSerial, PutsAre, BootPutsSetups, Window}
use Rattle.firmware_promises.proofs.SampleLaws.{windows_are_sampled}
use Rattle.promise_examples.proofs.Logs.Stories.{counting, counting_map}
use Rattle.promise_examples.proofs.Logs.Booted.{ready_at, ready_from}
use Rattle.promise_examples.proofs.Logs.GoodLog.{reaction, reacting, rests_with, good, past, opens_past, commits_past, reactions_past, writes_past}

-- The ready boundary is 2.
from_two : (v b n r : ℕ) → ReadyAt counting_map (reacting v b) n r → 2 ≤ r
from_two v b n r is_it = ready_from (reaction v b) (rests_with v) n r is_it

-- A step that comes before it is one of the first two.
before_ready : (v b n k : ℕ) → k ≤ n → 2 ≤ k → BeforeReady counting_map (reacting v b) n k → ⊥
before_ready v b n k at_most h before = before 2 h (inl (omega arith, refl))

pub in_time : (v b n : ℕ) → ReadyInTime counting counting_map (reacting v b) n
in_time v b n h = (2, omega arith, ready_at (reaction v b) (rests_with v) n (omega arith))

pub quiet : (v b n : ℕ) → BootIsQuiet counting_map (reacting v b) n
quiet v b n zero h before = (refl, refl, refl)
quiet v b n (suc zero) h before = (refl, refl, refl)
quiet v b n (suc (suc k)) h before = absurd (before_ready v b n (suc (suc k)) (omega arith) (omega arith) before)

pub turns : (v b n : ℕ) → Alternates counting_map (reacting v b) n
turns v b n zero h = inl refl
turns v b n (suc zero) h = inl refl
turns v b n (suc (suc zero)) h = inl refl
turns v b n (suc (suc (suc zero))) h = inl refl
turns v b n (suc (suc (suc (suc zero)))) h = inl refl
turns v b n (suc (suc (suc (suc (suc zero))))) h = inr (tick, refl)
turns v b n (suc (suc (suc (suc (suc (suc zero)))))) h = inl refl
turns v b n (suc (suc (suc (suc (suc (suc (suc k))))))) h = inl (opens_past v b k ∙ sym (commits_past v b k))

-- The one taking is before the open.
pub undisturbed : (v b n : ℕ) → NoTakingInside counting_map (reacting v b) n
undisturbed v b n zero e h is_open = refl
undisturbed v b n (suc zero) e h is_open = refl
undisturbed v b n (suc (suc zero)) e h is_open = absurd (let e : [] ≡ e ∷ [] = is_open in cc)
undisturbed v b n (suc (suc (suc zero))) e h is_open = refl
undisturbed v b n (suc (suc (suc (suc zero)))) e h is_open = refl
undisturbed v b n (suc (suc (suc (suc (suc zero))))) e h is_open = refl
undisturbed v b n (suc (suc (suc (suc (suc (suc zero)))))) e h is_open = refl
undisturbed v b n (suc (suc (suc (suc (suc (suc (suc k))))))) e h is_open = refl

-- Step 4 alone opens, and step 5 commits.
pub closes : (v b n : ℕ) → ClosesInTime counting counting_map (reacting v b) n
closes v b n zero e h is_open = absurd cc
closes v b n (suc zero) e h is_open = absurd cc
closes v b n (suc (suc zero)) e h is_open = absurd cc
closes v b n (suc (suc (suc zero))) e h is_open = absurd cc
closes v b n (suc (suc (suc (suc zero)))) e h is_open = (5, omega arith, omega arith, is_open)
closes v b n (suc (suc (suc (suc (suc zero))))) e h is_open = absurd cc
closes v b n (suc (suc (suc (suc (suc (suc zero)))))) e h is_open = absurd cc
closes v b n (suc (suc (suc (suc (suc (suc (suc k))))))) e h is_open = absurd cc

pub states : (b n : ℕ) → StatesAreSerial counting counting_map (reacting 1 b) n
states b n r zero is_it from to none = absurd (let at_least = from_two 1 b n r is_it in omega arith)
states b n r (suc zero) is_it from to none = absurd (let at_least = from_two 1 b n r is_it in omega arith)
states b n r (suc (suc zero)) is_it from to none = refl
states b n r (suc (suc (suc zero))) is_it from to none = refl
states b n r (suc (suc (suc (suc zero)))) is_it from to none = refl
states b n r (suc (suc (suc (suc (suc zero))))) is_it from to none = absurd (let e : tick ∷ [] ≡ [] = none in cc)
states b n r (suc (suc (suc (suc (suc (suc zero)))))) is_it from to none = refl
states b n r (suc (suc (suc (suc (suc (suc (suc zero))))))) is_it from to none = refl
states b n r (suc (suc (suc (suc (suc (suc (suc (suc k)))))))) is_it from to none = rw (reactions_past 1 b (suc k)) refl

-- After k steps the writes are those of the setups, and those of the reactions.
past_puts : (v k : ℕ) → PutsAre counting counting_map (reacting v 1) (past k) []
past_puts v k = ((1 ∷ []) ∷ [], rw (reactions_past v 1 k) refl, writes_past v 1 k)

not_open_past : (v b k : ℕ) (e : List ℕ) → Window counting_map (reacting v b) (past k) e → ⊥
not_open_past v b k e is_open =
    let one : tick ∷ [] ≡ (tick ∷ []) ++ e ∷ [] = sym (opens_past v b k) ∙ is_open ∙ rw (commits_past v b k) refl in cc

pub puts : (v n : ℕ) → PutsAreSerial counting counting_map (reacting v 1) n
puts v n r zero is_it from to = absurd (let at_least = from_two v 1 n r is_it in omega arith)
puts v n r (suc zero) is_it from to = absurd (let at_least = from_two v 1 n r is_it in omega arith)
puts v n r (suc (suc zero)) is_it from to = ((λ none. ([], refl, refl)), λ e is_open. absurd (let e : [] ≡ e ∷ [] = is_open in cc))
puts v n r (suc (suc (suc zero))) is_it from to = ((λ none. ([], refl, refl)), λ e is_open. absurd (let e : [] ≡ e ∷ [] = is_open in cc))
puts v n r (suc (suc (suc (suc zero)))) is_it from to = ((λ none. ([], refl, refl)), λ e is_open. absurd (let e : [] ≡ e ∷ [] = is_open in cc))
puts v n r (suc (suc (suc (suc (suc zero))))) is_it from to =
    ((λ none. absurd (let e : tick ∷ [] ≡ [] = none in cc)), λ e is_open. let same : e ≡ tick = (let it : tick ∷ [] ≡ e ∷ [] = is_open in cc) in (0 ∷ [], record { state = 1 ∷ []; ports = 1 ∷ [] }, 0, refl, rw same refl, ([], refl, refl)))
puts v n r (suc (suc (suc (suc (suc (suc zero)))))) is_it from to =
    ((λ none. ((1 ∷ []) ∷ [], refl, refl)), λ e is_open. absurd (let e : tick ∷ [] ≡ (tick ∷ []) ++ e ∷ [] = is_open in cc))
puts v n r (suc (suc (suc (suc (suc (suc (suc k))))))) is_it from to = ((λ none. past_puts v k), λ e is_open. absurd (not_open_past v 1 k e is_open))

pub setups : (v b n : ℕ) → BootPutsSetups counting counting_map (reacting v b) n
setups v b n zero h before = (0, refl)
setups v b n (suc zero) h before = (1, refl)
setups v b n (suc (suc k)) h before = absurd (before_ready v b n (suc (suc k)) (omega arith) (omega arith) before)

pub good_follows : (n : ℕ) → Follows counting counting_map good n
good_follows n = record {
  ready = in_time 1 1 n;
  quiet = quiet 1 1 n;
  turns = turns 1 1 n;
  undisturbed = undisturbed 1 1 n;
  closes = closes 1 1 n;
  states = states 1 n;
  puts = puts 1 n;
  setups = setups 1 1 n;
  samples = windows_are_sampled counting counting_map good refl n;
}
