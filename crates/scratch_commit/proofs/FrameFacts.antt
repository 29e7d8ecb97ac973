-- The bytes of frames have addresses below 512.
use Rattle.std.proofs.Common.{◌≡◌, ℕ, ◌+◌, ◌-◌, ◌*◌, ◌<◌, ◌≤◌, Bool, true, false, ◌&&◌, ◌||◌, if◌then◌else◌, Option, Some, None, ap, subst, sym, ◌∙◌, refl, arith, inl, inr, lit<}
use Rattle.std.specs.Prelude.{nat_le}
use Rattle.std.specs.Option.{ForSome}
use Rattle.std.proofs.lemmas.Bool.Decides.{leb_tells}
use Rattle.pic_regs.specs.declared.places.Place.{Place}
use Rattle.pic_regs.specs.declared.places.Place.TheVariants as place
use Rattle.pic_regs.specs.Map.{within}
use Rattle.pic_regs.specs.Places.{IsPlace}
use Rattle.bank_alloc.specs.declared.needs.Needs.{Needs}
use Rattle.bank_alloc.specs.Needs.{bytes_of}
use Rattle.bank_alloc.specs.Addresses.{address_of, is_general}
use Rattle.glue_parts.specs.Kept.{frame_cell}
use Rattle.glue_parts.proofs.FrameLaws.{frame-lies}
use Rattle.glue_parts.specs.declared.kept.TheConstants.{SAVED_PCLATH, SAVED_STATUS}
use Rattle.glue_parts.specs.declared.spread.Context.{Context}
use Rattle.scratch_commit.specs.declared.kinds.Kind.{Kind}
use Rattle.scratch_commit.specs.declared.masks.Saved.{Saved}
use Rattle.scratch_commit.specs.Frames.{FrameNamed, byte_of_frame, frame_of, is_between, is_over_runs, wanted}

and_false : (b : Bool) → (b && false) ≡ false
and_false true = refl
and_false false = refl

far : (low high address : ℕ) → high < address → within low high address ≡ false
far low high address past =
    elim (leb_tells address high) [
      | inl near ↦ let less = near.1 in absurd (omega (arith, less, past))
      | inr over ↦ ap (λ b. nat_le low address && b) over.0 ∙ and_false (nat_le low address)
    ]

general_below : (address : ℕ) → is_general address ≡ true → address < 512
general_below address general =
    elim (leb_tells 512 address) [
      | inl big ↦
          let past = big.1 in
          let none : is_general address ≡ false =
          λ j. far 0x020 0x06F address (omega (arith, past)) j || far 0x0A0 0x0EF address (omega (arith, past)) j || far 0x110 0x16F address (omega (arith, past)) j
          || far 0x190 0x1EF address (omega (arith, past)) j in
          absurd (cc)
      | inr small ↦ small.1
    ]

byte_below : (need : Needs) (level byte : ℕ) → bytes_of need ≤ 352 → 1 ≤ level → level ≤ need.levels → byte < 6 → address_of need (frame_cell need level byte) < 512
byte_below need level byte fits from placed six =
    general_below (address_of need (frame_cell need level byte)) (frame-lies need level byte fits from placed six).0

-- A place that is wanted or not is one below 512.
pub wanted_place : (t : Bool) (p : Place) → IsPlace p → ForSome (wanted t p) IsPlace
wanted_place true p is q same = let at : p ≡ q = cc in subst IsPlace at is
wanted_place false p is q same = absurd (cc)

pub byte_place : (need : Needs) (level byte : ℕ) → bytes_of need ≤ 352 → 1 ≤ level → level ≤ need.levels → byte < 6 → IsPlace (byte_of_frame need level byte)
byte_place need level byte fits from placed six = byte_below need level byte fits from placed six

pub either_place : (t : Bool) (p q : Place) → IsPlace p → IsPlace q → IsPlace (if t then p else q)
either_place true p q first second = first
either_place false p q first second = second

-- So are all places of a run's frame.
pub frame_named : (kind : Kind) (level : ℕ) (need : Needs) (context : Context) (saved : Saved) → bytes_of need ≤ 352 → 1 ≤ level → level ≤ need.levels
    → FrameNamed (frame_of kind level need context saved)
frame_named kind level need context saved fits from placed =
    let at = λ (byte : ℕ) (six : byte < 6). byte_place need level byte fits from placed six in record {
      status = wanted_place (is_over_runs kind && context.status) (if is_between kind then byte_of_frame need level 1 else SAVED_STATUS)
          (either_place (is_between kind) (byte_of_frame need level 1) SAVED_STATUS (at 1 (lit< tt)) (lit< tt));
      pclath = wanted_place (is_over_runs kind && context.pclath) (if is_between kind then byte_of_frame need level 2 else SAVED_PCLATH)
          (either_place (is_between kind) (byte_of_frame need level 2) SAVED_PCLATH (at 2 (lit< tt)) (lit< tt));
      intcon = wanted_place saved.intcon (byte_of_frame need level 3) (at 3 (lit< tt));
      pie1 = wanted_place saved.pie1 (byte_of_frame need level 4) (at 4 (lit< tt));
      pie2 = wanted_place saved.pie2 (byte_of_frame need level 5) (at 5 (lit< tt));
    }
