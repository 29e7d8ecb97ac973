-- The boot clears no flag: the good log's doesn't, and one that clears the flag of T0, which isn't the program's, is refused.
use Rattle.std.specs.Prelude.{ℕ, zero, suc, ◌<◌, true, false, [], ◌∷◌, refl}
use Rattle.std.proofs.Common.{◌≡◌, inl, inr, arith}
use Rattle.pic_isa.specs.declared.sources.Source.{Source}
use Rattle.pic_isa.specs.declared.sources.Source.TheVariants.{T0}
use Rattle.pic_regs.specs.Bytes.{Byte, zeros}
use Rattle.pic_machine.specs.Run.{Log}
use Rattle.firmware_promises.specs.Boots.{FlagsStay}
use Rattle.firmware_promises.specs.Counts.{clears}
use Rattle.firmware_promises.specs.Ready.{ShowsReady}
use Rattle.promise_examples.proofs.Logs.Stories.{chip, chip_of, ran, told, counting_map}
use Rattle.promise_examples.proofs.Logs.GoodLog.{good, boots, starts}

nothing_at_first : (source : Source) → clears source boots ≡ false
nothing_at_first T0 = refl
nothing_at_first _ = refl

nothing_then : (source : Source) → clears source starts ≡ false
nothing_then T0 = refl
nothing_then _ = refl

pub good_keeps_flags : (n : ℕ) → FlagsStay counting_map good n
good_keeps_flags n zero source h before = nothing_at_first source
good_keeps_flags n (suc zero) source h before = nothing_then source
good_keeps_flags n (suc (suc k)) source h before = absurd (before 2 (omega arith) (inl (omega arith, refl)))

-- INTCON with the flags of T0 and INT set at power-on, and with that of INT alone.
abbrev both_flags : Byte
both_flags = record zeros { b2 = true; b1 = true }

abbrev its_flag : Byte
its_flag = record zeros { b1 = true }

abbrev clears_another : Log
clears_another = told (ran (chip_of 0 both_flags 238) (chip_of 1 its_flag 238) ∷ []) (ran (chip 8 true true 0) (chip 8 true true 0))

not_ready : (j : ℕ) → j < 1 → ShowsReady counting_map clears_another 1 j → ⊥
not_ready zero h (inl s) = let e = s.1 in cc
not_ready zero h (inr s) = let e = s.1 in cc
not_ready (suc j) h s = omega arith

pub boot_must_leave_other_flags : FlagsStay counting_map clears_another 1 → ⊥
boot_must_leave_other_flags it = let e = it 0 T0 (omega arith) (λ j at_most s. not_ready j (omega arith) s) in cc
