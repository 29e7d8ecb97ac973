-- Logs that stop, that write what isn't listed, and that go too deep: for the last three clauses of `Keeps`.
use Rattle.std.specs.Prelude.{ℕ, zero, suc, ◌<◌, ◌≤◌, true, false, [], ◌∷◌, Some, IfSome}
use Rattle.std.proofs.Common.{◌≡◌, refl, arith}
use Rattle.pic_machine.specs.declared.steps.Did.TheVariants.{Stopped}
use Rattle.pic_machine.specs.declared.steps.Why.TheVariants as why
use Rattle.pic_machine.specs.Boundary.{Step}
use Rattle.pic_machine.specs.Run.{Log}
use Rattle.pic_machine.specs.Dids.{is_stop}
use Rattle.firmware_promises.specs.MapNames.{is_listed}
use Rattle.firmware_promises.specs.Counts.{chip_after}
use Rattle.firmware_promises.specs.Firmware.{Keeps}
use Rattle.promise_examples.proofs.Logs.Stories.{chip, counting, counting_map}
use Rattle.promise_examples.proofs.Logs.GoodLog.{returns, is_taken, clears_flag, opens_tick, commits_tick, rests}
use Rattle.promise_examples.proofs.Logs.Booted.{booted}

-- The good log up to its return, and then another step for good.
abbrev resting : Step → Log
resting rest = booted (is_taken ∷ clears_flag ∷ opens_tick ∷ commits_tick ∷ returns ∷ []) rest

-- goes_on: step 7 stops. Of the first 7 steps none does.
abbrev stops : Step
stops = record rests { did = Stopped 8 why.Sleep }

pub stop_is_refused : Keeps counting counting_map (resting stops) 8 → ⊥
stop_is_refused it = let e = it.goes_on 7 (omega arith) in cc

goes_on_before : (k : ℕ) → k < 7 → is_stop (resting stops k).did ≡ false
goes_on_before zero h = refl
goes_on_before (suc zero) h = refl
goes_on_before (suc (suc zero)) h = refl
goes_on_before (suc (suc (suc zero))) h = refl
goes_on_before (suc (suc (suc (suc zero)))) h = refl
goes_on_before (suc (suc (suc (suc (suc zero))))) h = refl
goes_on_before (suc (suc (suc (suc (suc (suc zero)))))) h = refl
goes_on_before (suc (suc (suc (suc (suc (suc (suc k))))))) h = absurd (omega arith)

-- listed: step 7 writes FSR, or 021h beside the listed 020h. It may write 020h.
abbrev writes : ℕ → Step
writes address = record rests { wrote = Some address }

pub other_write_is_refused : Keeps counting counting_map (resting (writes 0x004)) 8 → ⊥
other_write_is_refused it = let e = it.listed 7 (omega arith) in cc

pub write_beside_is_refused : Keeps counting counting_map (resting (writes 0x021)) 8 → ⊥
write_beside_is_refused it = let e = it.listed 7 (omega arith) in cc

listed_may_be_written : IfSome (resting (writes 0x020) 7).wrote (λ a. is_listed counting_map a ≡ true)
listed_may_be_written = refl

-- depth: after 8 steps there are two places on the return stack, and the map says one. After 7 steps there are none.
abbrev deep : ℕ → Step
deep places = record rests { after = record (chip 8 true false 1) { depth = places } }

pub depth_is_refused : Keeps counting counting_map (resting (deep 2)) 8 → ⊥
depth_is_refused it = let e : 2 ≤ 1 = it.depth 8 (omega arith) in omega arith

one_place_is_right : (chip_after (resting (deep 1)) 8).depth ≤ counting_map.depth
one_place_is_right = omega arith
