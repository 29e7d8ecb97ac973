-- Logs of two events, Tick and Low: what one does doesn't count for the other.
use Rattle.std.specs.Prelude.{ℕ, Bool, true, false, [], ◌∷◌, ◌++◌, None}
use Rattle.std.proofs.Common.{◌≡◌, inl, inr, arith}
use Rattle.efrp_meaning.proofs.Examples.Programs.{tick, low}
use Rattle.pic_regs.specs.Bytes.{zeros}
use Rattle.pic_regs.specs.Arrivals.{set_of}
use Rattle.pic_machine.specs.declared.steps.Did.TheVariants.{Took}
use Rattle.pic_machine.specs.Chip.{Chip}
use Rattle.pic_machine.specs.Run.{Log}
use Rattle.firmware_promises.specs.Follows.{Alternates}
use Rattle.firmware_promises.specs.Once.{Once}
use Rattle.promise_examples.proofs.Logs.Stories.{chip, chip_of, ran, step, told, two_events}
use Rattle.promise_examples.proofs.Logs.GoodLog.{rests}
use Rattle.promise_examples.proofs.Logs.Booted.{booted}

-- Tick opens, and Low commits.
abbrev crosses : Log
crosses = booted (ran (chip 8 true false 0) (chip 20 false false 0) ∷ ran (chip 20 false false 0) (chip 31 false false 0) ∷ ran (chip 31 false false 0) (chip 8 true false 0) ∷ []) rests

pub commit_must_be_of_the_same_event : Alternates two_events crosses 5 → ⊥
commit_must_be_of_the_same_event it =
    elim (it 5 (omega arith)) [ inl none ↦ (let e : tick ∷ [] ≡ low ∷ [] = none in cc) | inr one ↦ (let e : tick ∷ [] ≡ (low ∷ []) ++ one.0 ∷ [] = one.1 in cc) ]

-- Low opens, and Tick opens before Low has committed.
abbrev nests : Log
nests = booted (ran (chip 8 true false 0) (chip 30 false false 0) ∷ ran (chip 30 false false 0) (chip 20 false false 0) ∷ ran (chip 20 false false 0) (chip 21 false false 0) ∷ []) rests

pub windows_do_not_nest : Alternates two_events nests 5 → ⊥
windows_do_not_nest it =
    elim (it 5 (omega arith)) [ inl none ↦ (let e : low ∷ tick ∷ [] ≡ [] = none in cc) | inr one ↦ (let e : low ∷ tick ∷ [] ≡ one.0 ∷ [] = one.1 in cc) ]

-- T0, which is Low's, is latched and taken and its flag cleared, and Tick commits.
abbrev low_chip : ℕ → Bool → Bool → Chip
low_chip address gie its_flag = chip_of address (record zeros { b7 = gie; b5 = true; b2 = its_flag }) 0

abbrev mistakes : Log
mistakes = told (
    step (low_chip 8 true false) (low_chip 8 true true) (low_chip 4 false true) (set_of 1) Took None
    ∷ ran (low_chip 4 false true) (low_chip 20 false false)
    ∷ ran (low_chip 20 false false) (low_chip 21 false false)
    ∷ ran (low_chip 21 false false) (low_chip 8 true false) ∷ []) (ran (low_chip 8 true false) (low_chip 8 true false))

pub another_commit_does_not_count : Once two_events mistakes 4 → ⊥
another_commit_does_not_count it =
    elim it.0 [ inl waits ↦ (let e : ◌≡◌ {A = ℕ} 0 1 = waits.committed in omega arith) | inr goes_on ↦ (let e : ◌≡◌ {A = ℕ} 0 2 = goes_on.under_way in omega arith) ]
