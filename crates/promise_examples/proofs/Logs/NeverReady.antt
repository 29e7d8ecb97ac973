-- The log that never comes to its ready boundary breaks the clause `ready` of `Follows` alone.
use Rattle.std.specs.Prelude.{ℕ, zero, suc, false, []}
use Rattle.std.proofs.Common.{◌≡◌, refl, sym, ◌∙◌, inl, inr, arith, append-nil}
use Rattle.pic_machine.specs.Run.{Log}
use Rattle.firmware_promises.specs.Counts.{opens, commits, port_writes}
use Rattle.firmware_promises.specs.Ready.{ShowsReady}
use Rattle.firmware_promises.specs.Follows.{ReadyInTime, BootIsQuiet, Alternates, NoTakingInside, ClosesInTime, StatesAreSerial, PutsAreSerial, BootPutsSetups, WindowsAreSampled}
use Rattle.firmware_promises.proofs.SampleLaws.{windows_are_sampled}
use Rattle.promise_examples.proofs.Logs.Stories.{chip, ran, told, counting, counting_map}

abbrev never_ready : Log
never_ready = told [] (ran (chip 0 false false 238) (chip 0 false false 238))

never_shows : (n r : ℕ) → ShowsReady counting_map never_ready n r → ⊥
never_shows n zero (inl s) = let e = s.1 in cc
never_shows n (suc r) (inl s) = let e = s.1 in cc
never_shows n r (inr s) = let e = s.1 in cc

pub ready_must_come : ReadyInTime counting counting_map never_ready 63 → ⊥
ready_must_come it = let one = it (omega arith) in never_shows 63 one.0 one.2.shown

opens_nothing : (n : ℕ) → opens counting_map never_ready n ≡ []
opens_nothing zero = refl
opens_nothing (suc n) = rw append-nil (opens_nothing n)

commits_nothing : (n : ℕ) → commits counting_map never_ready n ≡ []
commits_nothing zero = refl
commits_nothing (suc n) = rw append-nil (commits_nothing n)

puts_nothing : (n : ℕ) → port_writes never_ready n ≡ []
puts_nothing zero = refl
puts_nothing (suc n) = rw append-nil (puts_nothing n)

quiet : (n : ℕ) → BootIsQuiet counting_map never_ready n
quiet n k h before = (refl, refl, refl)

turns : (n : ℕ) → Alternates counting_map never_ready n
turns n k h = inl (opens_nothing k ∙ sym (commits_nothing k))

undisturbed : (n : ℕ) → NoTakingInside counting_map never_ready n
undisturbed n k e h is_open = refl

closes : (n : ℕ) → ClosesInTime counting counting_map never_ready n
closes n s e h is_open = absurd cc

states : (n : ℕ) → StatesAreSerial counting counting_map never_ready n
states n r k is_it from to none = absurd (never_shows n r is_it.shown)

puts : (n : ℕ) → PutsAreSerial counting counting_map never_ready n
puts n r k is_it from to = absurd (never_shows n r is_it.shown)

setups : (n : ℕ) → BootPutsSetups counting counting_map never_ready n
setups n k h before = (0, puts_nothing k)

samples : (n : ℕ) → WindowsAreSampled counting counting_map never_ready n
samples n = windows_are_sampled counting counting_map never_ready refl n
