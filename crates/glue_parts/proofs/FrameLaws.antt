-- The bytes of frames: where they lie, and that they differ.
use Rattle.std.proofs.Common.{◌≡◌, ℕ, ◌+◌, ◌-◌, ◌*◌, ◌<◌, ◌≤◌, Bool, true, false, if◌then◌else◌, ap, sym, ◌∙◌, subst, arith, lt-ltb}
use Rattle.std.specs.Prelude.{nat_lt}
use Rattle.std.proofs.lemmas.Bool.Decides.{leb_tells}
use Rattle.std.specs.Prelude.{◌⊎◌}
use Rattle.std.proofs.Common.{inl, inr}
use Rattle.bank_alloc.specs.declared.needs.Needs.{Needs}
use Rattle.bank_alloc.specs.Needs.{bytes_of}
use Rattle.bank_alloc.specs.Addresses.{address_of, banked_byte, is_general, place_of}
use Rattle.bank_alloc.proofs.AddressLaws.{addresses-differ, addresses-general}
use Rattle.glue_parts.specs.Kept.{frame_cell}
use Rattle.glue_parts.specs.Laws.{FrameLies, FramesDiffer, FrameIsNoCell}

-- Tests of order.
not_below : (m n : ℕ) → n ≤ m → nat_lt m n ≡ false
not_below m n far = elim (leb_tells (m + 1) n) [ inl near ↦ let less = near.1 in absurd (omega (arith, less)) | inr there ↦ grind (arith, far) ]

frame_place : (need : Needs) (level byte : ℕ) → place_of need (frame_cell need level byte) ≡ 6 * (level - 1) + byte
frame_place need level byte =
    let far : nat_lt (frame_cell need level byte) (need.states + need.scratch) ≡ false = not_below (frame_cell need level byte) (need.states + need.scratch) (omega arith) in
    ap (λ b. if b then 6 * need.levels + frame_cell need level byte else frame_cell need level byte - (need.states + need.scratch)) far ∙ omega arith

low_byte : (k : ℕ) → k < 48 → banked_byte k < 0x70
low_byte k below =
    let near : nat_lt k 80 ≡ true = lt-ltb k 80 (omega arith) in
    let there : banked_byte k ≡ 0x020 + k = ap (λ b. if b then 0x020 + k else if nat_lt k 160 then 0x0A0 + (k - 80) else if nat_lt k 256 then 0x110 + (k - 160) else 0x190 + (k - 256)) near in
    omega arith

pub frame-lies : (need : Needs) (level byte : ℕ) → FrameLies need level byte
frame-lies need level byte fits from placed six = (
  addresses-general need fits (frame_cell need level byte) (omega arith),
  λ few. let P : ℕ → Type 0 = λ k. banked_byte k < 0x70 in subst P (sym (frame_place need level byte)) (low_byte (6 * (level - 1) + byte) (omega arith)),
)

pub frames-differ : (need : Needs) (level other byte more : ℕ) → FramesDiffer need level other byte more
frames-differ need level other byte more fits from placed from_other placed_other six six_more same =
    let cells = addresses-differ need fits (frame_cell need level byte) (frame_cell need other more) (omega arith) (omega arith) same in
    (omega (arith, cells), omega (arith, cells))

pub frame-no_cell : (need : Needs) (level byte cell : ℕ) → FrameIsNoCell need level byte cell
frame-no_cell need level byte cell fits from placed six inside same =
    let cells = addresses-differ need fits (frame_cell need level byte) cell (omega arith) (omega arith) same in omega (arith, cells)
