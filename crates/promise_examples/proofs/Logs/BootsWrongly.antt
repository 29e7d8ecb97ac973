-- The boot puts 9 where the setup has 7. Over its first step the log breaks the clause `setups` of `Follows` alone. Once the ready
-- boundary is shown, `puts` falls with it.
use Rattle.std.specs.Prelude.{ℕ, zero, suc, true, false, List, [], ◌∷◌, take}
use Rattle.std.proofs.Common.{◌≡◌, refl, ap, inl, inr, arith}
use Rattle.pic_machine.specs.declared.steps.PortWrite.{PortWrite}
use Rattle.pic_machine.specs.Run.{Log}
use Rattle.firmware_promises.specs.Ready.{ShowsReady}
use Rattle.firmware_promises.specs.Follows.{ReadyInTime, BootIsQuiet, Alternates, NoTakingInside, ClosesInTime, StatesAreSerial, PutsAreSerial, BootPutsSetups, WindowsAreSampled}
use Rattle.firmware_promises.proofs.SampleLaws.{windows_are_sampled}
use Rattle.promise_examples.proofs.Logs.Stories.{chip, ran, put, told, counting, counting_map}
use Rattle.promise_examples.proofs.Logs.GoodLog.{starts, write_of}

abbrev boots_wrongly : Log
boots_wrongly = told (put 9 (chip 0 false false 238) (chip 1 false false 238) ∷ starts ∷ []) (ran (chip 8 true false 0) (chip 8 true false 0))

not_ready : (r : ℕ) → ShowsReady counting_map boots_wrongly 1 r → ⊥
not_ready zero (inl s) = let e = s.1 in cc
not_ready zero (inr s) = let e = s.1 in cc
not_ready (suc zero) (inl s) = let e = s.1 in cc
not_ready (suc r) (inr s) = let h = s.0 in omega arith
not_ready (suc (suc r)) (inl s) = let h = s.0 in omega arith

-- The byte of the first write.
abbrev first_byte : List PortWrite → ℕ
first_byte [] = 0
first_byte (w ∷ ws) = w.byte

not_zero : (a b : ℕ) → a ≡ 9 → b ≡ 0 → a ≡ b → ⊥
not_zero a b p q e = omega arith

not_seven : (a b : ℕ) → a ≡ 9 → b ≡ 7 → a ≡ b → ⊥
not_seven a b p q e = omega arith

nine : (i : ℕ) → write_of 1 9 ∷ [] ≡ take i (write_of 1 7 ∷ []) → ⊥
nine zero e = not_zero 9 0 refl refl (ap first_byte e)
nine (suc i) e = not_seven 9 7 refl refl (ap first_byte e)

pub boot_must_put_the_setups : BootPutsSetups counting counting_map boots_wrongly 1 → ⊥
boot_must_put_the_setups it = let one = it 1 (omega arith) (λ j at_most. not_ready j) in nine one.0 one.1

in_time : ReadyInTime counting counting_map boots_wrongly 1
in_time h = absurd (omega arith)

quiet : BootIsQuiet counting_map boots_wrongly 1
quiet zero h before = (refl, refl, refl)
quiet (suc k) h before = absurd (omega arith)

turns : Alternates counting_map boots_wrongly 1
turns zero h = inl refl
turns (suc zero) h = inl refl
turns (suc (suc k)) h = absurd (omega arith)

undisturbed : NoTakingInside counting_map boots_wrongly 1
undisturbed zero e h is_open = refl
undisturbed (suc k) e h is_open = absurd (omega arith)

closes : ClosesInTime counting counting_map boots_wrongly 1
closes s e h is_open = absurd (omega arith)

states : StatesAreSerial counting counting_map boots_wrongly 1
states r k is_it from to none = absurd (not_ready r is_it.shown)

puts : PutsAreSerial counting counting_map boots_wrongly 1
puts r k is_it from to = absurd (not_ready r is_it.shown)

samples : WindowsAreSampled counting counting_map boots_wrongly 1
samples = windows_are_sampled counting counting_map boots_wrongly refl 1
