-- The bytes of a run's frame: they exist, lie in bank 0 or in each bank, and differ; and what saving and bringing back leave.
use Rattle.std.proofs.Common.{◌≡◌, ℕ, ◌/◌, ◌%◌, ◌<◌, ◌≤◌, ◌==◌, Bool, true, false, if◌then◌else◌, Some, None, refl, ap, ◌∙◌, arith, inl, inr}
use Rattle.std.specs.Prelude.{nat_lt, ◌⊎◌}
use Rattle.std.proofs.lemmas.Bool.Decides.{eqb_tells}
use Rattle.std.proofs.Common.{lt-ltb}
use Rattle.pic_regs.specs.declared.places.Place.{Place}
use Rattle.pic_regs.specs.declared.places.Place.TheVariants as place
use Rattle.pic_regs.specs.Bytes.{Byte, updated}
use Rattle.pic_regs.specs.Map.{Plain, reg_at}
use Rattle.pic_regs.specs.Places.{reg_of}
use Rattle.pic_regs.specs.Registers.{Registers, read}
use Rattle.bank_alloc.specs.declared.needs.Needs.{Needs}
use Rattle.bank_alloc.specs.Needs.{bytes_of}
use Rattle.bank_alloc.specs.Addresses.{address_of}
use Rattle.bank_alloc.proofs.AddressLaws.{general-plain}
use Rattle.code_steps.specs.declared.banks.Bank.{Bank}
use Rattle.code_steps.specs.declared.banks.Bank.TheVariants.{Known}
use Rattle.code_acts.specs.Codes.{moved}
use Rattle.glue_parts.specs.Kept.{frame_cell}
use Rattle.glue_parts.specs.Places.{bank_of, IsNumbered}
use Rattle.glue_parts.proofs.FrameLaws.{frame-lies, frames-differ}
use Rattle.scratch_commit.specs.Deeds.{bank_past}
use Rattle.scratch_commit.specs.Effects.{effect_in}
use Rattle.scratch_commit.specs.Frames.{saving, wanted}

-- What holds of a level that has a frame.
pub record HasFrame (need : Needs) (level : ℕ) : Type 0 where
  pub bytes : bytes_of need ≤ 352
  pub from_one : 1 ≤ level
  pub placed : level ≤ need.levels
  pub few : level ≤ 8

-- A plain byte in bank 0.
pub record IsLow (address : ℕ) : Type 0 where
  pub below : address < 0x70
  pub there : reg_at address ≡ Plain address

pub low_byte : (need : Needs) (level byte : ℕ) → HasFrame need level → byte < 6 → IsLow (address_of need (frame_cell need level byte))
low_byte need level byte has six =
    let lies = frame-lies need level byte has.bytes has.from_one has.placed six in
    record { below = lies.1 has.few; there = general-plain (address_of need (frame_cell need level byte)) lies.0 }

pub low_numbered : (address : ℕ) → IsLow address → IsNumbered (Plain address)
low_numbered address low = let below = low.below in (omega arith, low.there)

pub low_bank : (address : ℕ) → IsLow address → bank_of (Plain address) ≡ Some 0
low_bank address low =
    let below = low.below in
    let same : address % 128 ≡ address = omega arith in
    let first : address / 128 ≡ 0 = omega arith in
    let near : nat_lt (address % 128) 0x70 ≡ true = ap (λ n. nat_lt n 0x70) same ∙ lt-ltb address 0x70 below in
    ap (λ t. if t then Some (address / 128) else None) near ∙ ap Some first

pub saved_bank : (register : Place) (t : Bool) (address : ℕ) → IsLow address → (o : Bank) → moved o (bank_of (reg_of register)) ≡ Known 0 → o ≡ Known 0
    → bank_past o (saving register (wanted t (place.Plain address))) ≡ Known 0
saved_bank register true address low o near begun = ap (λ b. moved b (bank_of (Plain address))) near ∙ ap (moved (Known 0)) (low_bank address low)
saved_bank register false address low o near begun = begun

-- A byte that is saved or not, and what it is then.
abbrev pub stored_if : Bool → ℕ → Byte → (ℕ → Byte) → ℕ → Byte
stored_if t address x memory = if t then updated memory address x else memory

pub saving_leaves : (register : Place) (t : Bool) (address : ℕ) (r : Registers)
    → (effect_in (saving register (wanted t (place.Plain address)))).change r ≡ record r { plain = stored_if t address (read (reg_of register) r) r.plain }
saving_leaves register true address r = refl
saving_leaves register false address r = refl

not_same : (a b : ℕ) → (a ≡ b → ⊥) → (a == b) ≡ false
not_same a b differ = elim (eqb_tells a b) [ inl same ↦ absurd (differ same.1) | inr other ↦ other.0 ]

same_test : (a : ℕ) → (a == a) ≡ true
same_test a = elim (eqb_tells a a) [ inl same ↦ same.0 | inr other ↦ absurd (other.1 refl) ]

pub other_kept : (t : Bool) (address at : ℕ) (x : Byte) (memory : ℕ → Byte) → (at ≡ address → ⊥) → stored_if t address x memory at ≡ memory at
other_kept true address at x memory differ = ap (λ b. if b then x else memory at) (not_same at address differ)
other_kept false address at x memory differ = refl

pub here_stored : (t : Bool) (address : ℕ) (x : Byte) (memory : ℕ → Byte) → t ≡ true → stored_if t address x memory address ≡ x
here_stored true address x memory is = ap (λ b. if b then x else memory address) (same_test address)
here_stored false address x memory is = absurd (cc)

-- Two bytes of one frame differ.
pub bytes_differ : (need : Needs) (level byte more : ℕ) → HasFrame need level → byte < 6 → more < 6 → (byte ≡ more → ⊥)
    → address_of need (frame_cell need level byte) ≡ address_of need (frame_cell need level more) → ⊥
bytes_differ need level byte more has six also differ same =
    differ (frames-differ need level level byte more has.bytes has.from_one has.placed has.from_one has.placed six also same).1

-- A place that is wanted is the one that was asked for.
pub wanted_is : (t : Bool) (p q : Place) → wanted t p ≡ Some q → (t ≡ true) × (p ≡ q)
wanted_is true p q is = (refl, cc)
wanted_is false p q is = absurd (cc)
