-- Where a run finds again what was saved of what it interrupted, and the deeds that save and bring back.
use Rattle.std.specs.Prelude.{ℕ, Bool, true, false, ◌&&◌, ◌||◌, ◌==◌, if◌then◌else◌, Option, Some, None, List, [], ◌∷◌, ◌++◌}
use Rattle.std.specs.Option.{ForSome}
use Rattle.bank_alloc.specs.declared.needs.Needs.{Needs}
use Rattle.bank_alloc.specs.Addresses.{address_of}
use Rattle.pic_isa.specs.declared.bits.TheConstants.{INTE, PEIE, T0IE}
use Rattle.pic_regs.specs.declared.places.Place.{Place}
use Rattle.pic_regs.specs.declared.places.Place.TheVariants as place
use Rattle.pic_regs.specs.Places.{IsPlace}
use Rattle.glue_parts.specs.declared.kept.TheConstants.{SAVED_PCLATH, SAVED_STATUS}
use Rattle.glue_parts.specs.declared.spread.Context.{Context}
use Rattle.glue_parts.specs.Kept.{frame_cell}
use Rattle.scratch_commit.specs.declared.frames.Frame.{Frame}
use Rattle.scratch_commit.specs.declared.kinds.Kind.{Kind}
use Rattle.scratch_commit.specs.declared.kinds.Kind.TheVariants.{Short, Long, Bottom, Middle}
use Rattle.scratch_commit.specs.declared.masks.Masks.{Masks}
use Rattle.scratch_commit.specs.declared.masks.Saved.{Saved}
use Rattle.scratch_commit.specs.Deeds.{Deed, Copy}
use Rattle.scratch_commit.specs.Masks.{unmask_bit, unmask_register}

-- A run of this kind may interrupt other runs; and its own work may be interrupted then, and it interrupts other runs.
abbrev pub is_over_runs : Kind → Bool
is_over_runs Bottom = false
is_over_runs _ = true

abbrev pub is_between : Kind → Bool
is_between Middle = true
is_between _ = false

-- A byte of a level's frame.
abbrev pub byte_of_frame : Needs → (level byte : ℕ) → Place
byte_of_frame need level byte = place.Plain (address_of need (frame_cell need level byte))

-- The place, where it is wanted.
abbrev pub wanted : Bool → Place → Option Place
wanted is_wanted p = if is_wanted then Some p else None

-- The frame of a run of this level. A run that nothing interrupts finds STATUS and PCLATH where the taking put them, and one of a
-- level between in the level's frame.
abbrev pub frame_of : Kind → (level : ℕ) → Needs → Context → Saved → Frame
frame_of kind level need context saved = record {
  status = wanted (is_over_runs kind && context.status) (if is_between kind then byte_of_frame need level 1 else SAVED_STATUS);
  pclath = wanted (is_over_runs kind && context.pclath) (if is_between kind then byte_of_frame need level 2 else SAVED_PCLATH);
  intcon = wanted saved.intcon (byte_of_frame need level 3);
  pie1 = wanted saved.pie1 (byte_of_frame need level 4);
  pie2 = wanted saved.pie2 (byte_of_frame need level 5);
}

-- An address is that of a byte of the frame.
abbrev pub is_byte : ℕ → Option Place → Bool
is_byte address (Some (place.Plain a)) = a == address
is_byte address _ = false

abbrev pub is_in_frame : Frame → ℕ → Bool
is_in_frame frame address =
    is_byte address frame.status || is_byte address frame.pclath || is_byte address frame.intcon || is_byte address frame.pie1 || is_byte address frame.pie2

-- The addresses of its places are below 512.
pub record FrameNamed (frame : Frame) : Type 0 where
  pub status : ForSome frame.status IsPlace
  pub pclath : ForSome frame.pclath IsPlace
  pub intcon : ForSome frame.intcon IsPlace
  pub pie1 : ForSome frame.pie1 IsPlace
  pub pie2 : ForSome frame.pie2 IsPlace

-- A register is saved at a place, where there is one, and brought back from it.
abbrev pub saving : Place → Option Place → List Deed
saving register None = []
saving register (Some p) = Copy register p ∷ []

abbrev pub bringing : Place → Option Place → List Deed
bringing register None = []
bringing register (Some p) = Copy p register ∷ []

-- What the taking has put into common bytes is saved in the frame of a level between.
abbrev pub saving_context : Kind → Frame → List Deed
saving_context kind frame =
    if is_between kind then saving SAVED_STATUS frame.status ++ saving SAVED_PCLATH frame.pclath else []

-- So are the registers of enables.
abbrev pub saving_enables : Frame → List Deed
saving_enables frame = saving place.Intcon frame.intcon ++ (saving place.Pie1 frame.pie1 ++ saving place.Pie2 frame.pie2)

-- The enables are set again as they were in what was interrupted.
abbrev pub unmasking : Masks → Frame → List Deed
unmasking masks frame =
    unmask_register place.Pie1 masks.pie1 frame.pie1 ∷ unmask_register place.Pie2 masks.pie2 frame.pie2
    ∷ (unmask_bit T0IE masks.intcon frame.intcon ++ (unmask_bit INTE masks.intcon frame.intcon ++ unmask_bit PEIE masks.intcon frame.intcon))

-- PCLATH and STATUS are brought back.
abbrev pub bringing_back : Frame → List Deed
bringing_back frame = bringing place.Pclath frame.pclath ++ bringing place.Status frame.status
