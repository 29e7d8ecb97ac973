-- What is set up stands: of the counting program TRISB holds 0 from the ready boundary on.
use Rattle.std.specs.Prelude.{ℕ, Bool, zero, suc, ◌<◌, ◌==◌, false, true, List, [], ◌∷◌, codes, Option, Some, None, if◌then◌else◌}
use Rattle.std.proofs.Common.{◌≡◌, refl, sym, arith, subst, inl, inr}
use Rattle.efrp_meaning.proofs.Examples.Programs.{setup}
use Rattle.pic_regs.specs.Bytes.{bits, num}
use Rattle.pic_regs.specs.Map.{within, reg_at, existing}
use Rattle.pic_machine.specs.Chip.{Chip}
use Rattle.pic_machine.specs.Boundary.{Step}
use Rattle.pic_machine.specs.Run.{Log}
use Rattle.pic_regs.specs.Registers.{byte_at}
use Rattle.firmware_promises.specs.Counts.{chip_after}
use Rattle.firmware_promises.specs.Ready.{ShowsReady}
use Rattle.firmware_promises.specs.Setups.{SetupsStand, last_setup}
use Rattle.promise_examples.proofs.Logs.Stories.{chip, ran, told, counting, counting_map}
use Rattle.promise_examples.proofs.Logs.GoodLog.{good, boots, is_taken, clears_flag, rests}
use Rattle.promise_examples.proofs.Logs.Booted.{booted, ready_at}

-- The last setup of TRISB gives 0, and of TRISC there is none. Of two setups of one register the later counts.
trisb_is_set : last_setup counting.setups 0x086 ≡ Some 0
trisb_is_set = refl

trisc_is_not_set : last_setup counting.setups 0x087 ≡ None
trisc_is_not_set = refl

later_counts : last_setup (setup (codes "TRISB") 1 ∷ setup (codes "TRISC") 2 ∷ setup (codes "TRISB") 3 ∷ []) 0x086 ≡ Some 3
later_counts = refl

other_stays : last_setup (setup (codes "TRISB") 1 ∷ setup (codes "TRISC") 2 ∷ setup (codes "TRISB") 3 ∷ []) 0x087 ≡ Some 2
other_stays = refl

-- Of FFh a register holds the bits that exist: TRISA six, TRISE all but bit 3, and TRISB all.
held_in_trisa : num (existing (reg_at 0x085) (bits 0xFF)) ≡ 0x3F
held_in_trisa = refl

held_in_trise : num (existing (reg_at 0x089) (bits 0xFF)) ≡ 0xF7
held_in_trise = refl

held_in_trisb : num (existing (reg_at 0x086) (bits 0xFF)) ≡ 0xFF
held_in_trisb = refl

-- The good log keeps 0 in TRISB for good.
zero_at : (k : ℕ) → byte_at (chip_after good k).regs 0x086 ≡ 0
zero_at zero = refl
zero_at (suc zero) = refl
zero_at (suc (suc zero)) = refl
zero_at (suc (suc (suc zero))) = refl
zero_at (suc (suc (suc (suc zero)))) = refl
zero_at (suc (suc (suc (suc (suc zero))))) = refl
zero_at (suc (suc (suc (suc (suc (suc zero)))))) = refl
zero_at (suc (suc (suc (suc (suc (suc (suc zero))))))) = refl
zero_at (suc (suc (suc (suc (suc (suc (suc (suc k)))))))) = refl

-- Setups stand there at each moment: no other register than TRISB is asked for, as PORTB is a port.
abbrev Stands : (k a byte : ℕ) → Type 0
Stands k a byte = byte_at (chip_after good k).regs a ≡ num (existing (reg_at a) (bits byte))

abbrev given : Bool → Bool → Option ℕ
given port tris = elim (if tris then Some 0 else None) [ Some byte ↦ Some byte | None ↦ (if port then Some 7 else None) ]

by_setup : (k a byte : ℕ) (port tris : Bool) → (0x006 == a) ≡ port → (0x086 == a) ≡ tris → within 5 9 a ≡ false → given port tris ≡ Some byte → Stands k a byte
by_setup k a byte port true e f inside is_set =
    let there : 0x086 ≡ a = grind arith in
    let zero_is : 0 ≡ byte = cc in
    subst (λ x. Stands k x byte) there (subst (λ b. Stands k 0x086 b) zero_is (zero_at k))
by_setup k a byte true false e f inside is_set =
    let there : 0x006 ≡ a = grind arith in
    let no : within 5 9 0x006 ≡ false = subst (λ x. within 5 9 x ≡ false) (sym there) inside in
    cc
by_setup k a byte false false e f inside is_set = cc

pub setups_stand : (n : ℕ) → SetupsStand counting counting_map good n
setups_stand n r k a byte is_it h i inside is_set = by_setup k a byte _ _ refl refl inside is_set

-- A chip with another byte in TRISB. The ready boundary is 2 in each log that begins with the boot of the good one.
abbrev with_trisb : ℕ → Chip → Chip
with_trisb byte c = record c { regs = record c.regs { tris = λ port. if port == 1 then bits byte else c.regs.tris port } }

-- The boot leaves 1 in TRISB.
abbrev boots_wrongly : Log
boots_wrongly = told (boots ∷ ran (chip 1 false false 238) (with_trisb 1 (chip 8 true false 0)) ∷ []) rests

wrongly_before : (k : ℕ) → k < 2 → ShowsReady counting_map boots_wrongly 2 k → ⊥
wrongly_before zero h (inl s) = let e = s.1 in cc
wrongly_before zero h (inr s) = let e = s.1 in cc
wrongly_before (suc zero) h (inl s) = let e = s.1 in cc
wrongly_before (suc zero) h (inr s) = let e = s.1 in cc
wrongly_before (suc (suc k)) h s = omega arith

pub setup_must_stand_when_ready : SetupsStand counting counting_map boots_wrongly 2 → ⊥
setup_must_stand_when_ready it =
    let e = it 2 2 0x086 0 (record { shown = inl (omega arith, refl); least = wrongly_before }) (omega arith) (omega arith) refl refl in cc

-- The open, three steps after the ready boundary, leaves 1 there. It stood until then.
abbrev after_changing : List Step
after_changing = is_taken ∷ clears_flag ∷ ran (chip 20 false false 0) (with_trisb 1 (chip 21 false false 1)) ∷ []

pub setup_must_stand_later : SetupsStand counting counting_map (booted after_changing rests) 5 → ⊥
setup_must_stand_later it = let e = it 2 5 0x086 0 (ready_at after_changing rests 5 (omega arith)) (omega arith) (omega arith) refl refl in cc
