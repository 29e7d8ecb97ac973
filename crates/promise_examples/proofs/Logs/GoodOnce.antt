-- The good log reacts once, is urgent, and has settled from its seventh step on. None of this looks at the count v that it
-- leaves or at the byte b that it puts.
use Rattle.std.specs.Prelude.{ℕ, zero, suc, Bool, true, false}
use Rattle.std.proofs.Common.{◌≡◌, refl, sym, ◌∙◌, inl, inr, arith}
use Rattle.pic_isa.specs.declared.sources.Source.TheVariants.{Int}
use Rattle.pic_machine.specs.Boundary.{Step}
use Rattle.firmware_promises.specs.Counts.{latches, clears, latched_count, cleared_count, commit_count, flag_after, interrupts_on, chip_after}
use Rattle.firmware_promises.specs.Once.{Once, Waits}
use Rattle.firmware_promises.specs.Settled.{Settled}
use Rattle.firmware_promises.specs.Urgent.{Urgent, NoOvertaking, InterruptsComeOn, Listens, WorkIsOpen, TakesInTime, AtOne, is_heard}
use Rattle.promise_examples.proofs.Logs.Stories.{counting, counting_map, tick_event}
use Rattle.promise_examples.proofs.Logs.GoodLog.{reacting, past, count_past, commits_past}

latched_past : (v b k : ℕ) → latched_count (reacting v b) tick_event (past k) ≡ 1
latched_past v b k = count_past v b (latches Int) refl k

cleared_past : (v b k : ℕ) → cleared_count (reacting v b) tick_event (past k) ≡ 1
cleared_past v b k = count_past v b (clears Int) refl k

committed_past : (v b k : ℕ) → commit_count counting_map (reacting v b) tick_event (past k) ≡ 1
committed_past v b k = rw (commits_past v b k) refl

flag_past : (v b k : ℕ) → flag_after (reacting v b) tick_event (past k) ≡ 0
flag_past v b zero = refl
flag_past v b (suc k) = refl

waits_past : (v b k : ℕ) → Waits counting_map (reacting v b) tick_event (past k)
waits_past v b k = record {
  committed = cleared_past v b k ∙ sym (committed_past v b k);
  accounted = rw (committed_past v b k, flag_past v b k) (latched_past v b k);
}

pub once : (v b n : ℕ) → Once counting_map (reacting v b) n
once v b zero = (inl (record { committed = refl; accounted = refl }), tt)
once v b (suc zero) = (inl (record { committed = refl; accounted = refl }), tt)
once v b (suc (suc zero)) = (inl (record { committed = refl; accounted = refl }), tt)
once v b (suc (suc (suc zero))) = (inl (record { committed = refl; accounted = refl }), tt)
once v b (suc (suc (suc (suc zero)))) = (inr (record { under_way = refl; accounted = refl }), tt)
once v b (suc (suc (suc (suc (suc zero))))) = (inr (record { under_way = refl; accounted = refl }), tt)
once v b (suc (suc (suc (suc (suc (suc zero)))))) = (inl (record { committed = refl; accounted = refl }), tt)
once v b (suc (suc (suc (suc (suc (suc (suc k))))))) = (inl (waits_past v b k), tt)

-- One event overtakes none.
no_overtaking : (v b n : ℕ) → NoOvertaking counting_map (reacting v b) n
no_overtaking v b n s h = (((λ ran higher. absurd (omega arith)), tt), tt)

-- From the seventh step on GIE is on at each boundary, and each stretch reaches one of these.
comes_on : (v b : ℕ) (test : Step → Bool) → ((k : ℕ) → test (reacting v b (past k)) ≡ true) → (s : ℕ) → AtOne counting (reacting v b) s test
comes_on v b test it zero = (7, omega arith, omega arith, it 0)
comes_on v b test it (suc zero) = (7, omega arith, omega arith, it 0)
comes_on v b test it (suc (suc zero)) = (7, omega arith, omega arith, it 0)
comes_on v b test it (suc (suc (suc zero))) = (7, omega arith, omega arith, it 0)
comes_on v b test it (suc (suc (suc (suc zero)))) = (7, omega arith, omega arith, it 0)
comes_on v b test it (suc (suc (suc (suc (suc zero))))) = (7, omega arith, omega arith, it 0)
comes_on v b test it (suc (suc (suc (suc (suc (suc zero)))))) = (7, omega arith, omega arith, it 0)
comes_on v b test it (suc (suc (suc (suc (suc (suc (suc k))))))) = (past k, omega arith, omega arith, it k)

interrupts_off : (v b n : ℕ) → InterruptsComeOn counting counting_map (reacting v b) n
interrupts_off v b n s stretch = comes_on v b interrupts_on (λ k. refl) s

listening : (v b n : ℕ) → Listens counting counting_map (reacting v b) n
listening v b n s stretch = ((λ none. comes_on v b (is_heard tick_event) (λ k. refl) s), tt)

open_work : (v b n : ℕ) → WorkIsOpen counting_map (reacting v b) n
open_work v b n zero h asked = (7, omega arith, omega arith, refl)
open_work v b n (suc zero) h asked = (7, omega arith, omega arith, refl)
open_work v b n (suc (suc zero)) h asked = (7, omega arith, omega arith, refl)
open_work v b n (suc (suc (suc zero))) h asked = (7, omega arith, omega arith, refl)
open_work v b n (suc (suc (suc (suc zero)))) h asked = (7, omega arith, omega arith, refl)
open_work v b n (suc (suc (suc (suc (suc zero))))) h asked = (7, omega arith, omega arith, refl)
open_work v b n (suc (suc (suc (suc (suc (suc zero)))))) h asked = (7, omega arith, omega arith, refl)
open_work v b n (suc (suc (suc (suc (suc (suc (suc k))))))) h asked = (past (suc k), omega arith, omega arith, refl)

-- Tick is heard with its flag set at boundary 2 alone, where it is taken.
in_time : (v b n : ℕ) → TakesInTime counting_map (reacting v b) n
in_time v b n zero h = ((λ heard is_set. absurd cc), tt)
in_time v b n (suc zero) h = ((λ heard is_set. absurd cc), tt)
in_time v b n (suc (suc zero)) h = ((λ heard is_set. inl refl), tt)
in_time v b n (suc (suc (suc zero))) h = ((λ heard is_set. absurd cc), tt)
in_time v b n (suc (suc (suc (suc zero)))) h = ((λ heard is_set. absurd cc), tt)
in_time v b n (suc (suc (suc (suc (suc zero))))) h = ((λ heard is_set. absurd cc), tt)
in_time v b n (suc (suc (suc (suc (suc (suc zero)))))) h = ((λ heard is_set. absurd cc), tt)
in_time v b n (suc (suc (suc (suc (suc (suc (suc k))))))) h = ((λ heard is_set. absurd cc), tt)

pub urgent : (v b n : ℕ) → Urgent counting counting_map (reacting v b) n
urgent v b n = record {
  no_overtaking = no_overtaking v b n;
  interrupts_off = interrupts_off v b n;
  listening = listening v b n;
  open_work = open_work v b n;
  in_time = in_time v b n;
}

-- It has settled at its ready boundary too, where nothing was latched.
pub settled_at_first : (v b : ℕ) → Settled counting_map (reacting v b) 2
settled_at_first v b = record { clear = (refl, tt); ready = refl; reacted = (refl, tt) }

clear_past : (v b k : ℕ) → (chip_after (reacting v b) (past k)).regs.intcon.b1 ≡ false
clear_past v b zero = refl
clear_past v b (suc k) = refl

ready_past : (v b k : ℕ) → (chip_after (reacting v b) (past k)).pc ≡ 8
ready_past v b zero = refl
ready_past v b (suc k) = refl

pub settled : (v b k : ℕ) → Settled counting_map (reacting v b) (past k)
settled v b k = record { clear = (clear_past v b k, tt); ready = ready_past v b k; reacted = (committed_past v b k ∙ sym (latched_past v b k), tt) }
