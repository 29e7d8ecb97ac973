-- Deeds as steps of glue that write what they may.
use Rattle.std.specs.Prelude.{◌≡◌, ℕ, ◌<◌, true, false, nat_le, ◌&&◌}
use Rattle.pic_regs.specs.declared.places.Place.TheVariants as place
use Rattle.pic_regs.specs.Bytes.{bits, is_zero}
use Rattle.pic_regs.specs.Map.{Plain, reg_at}
use Rattle.pic_regs.specs.Places.{reg_of}
use Rattle.glue_steps.specs.declared.lines.Line.TheVariants.{Bit}
use Rattle.glue_steps.specs.Still.{MayWrite, is_glue_reg, is_still}
use Rattle.glue_parts.specs.Places.{IsNumbered, may_be_written}
use Rattle.glue_parts.specs.declared.moves.Move.{Move}
use Rattle.scratch_commit.specs.Deeds.{Deed, Change, Choose, Copy, LowerFlag, Make, Pause, SetIf, Write}

-- The lines of a deed are steps of glue, and it writes a register that it may write. A change of no bit writes nothing.
abbrev pub DeedStill : (May : ℕ → Type 0) → Deed → Type 0
DeedStill May Pause = Unit {0}
DeedStill May (Make v p b) = (is_still (Bit v p b) ≡ true) × MayWrite May (reg_of p)
DeedStill May (Choose k) = Unit {0}
DeedStill May (Copy from to) = (is_glue_reg (reg_of to) ≡ true) × MayWrite May (reg_of to)
DeedStill May (Write p byte) = (is_glue_reg (reg_of p) ≡ true) × MayWrite May (reg_of p)
DeedStill May (Change p changing byte) = is_zero (bits changing) ≡ false → (is_glue_reg (reg_of p) ≡ true) × MayWrite May (reg_of p)
DeedStill May (LowerFlag source) = ⊥
DeedStill May (SetIf p b) = ((nat_le 4 b && nat_le b 6) ≡ true) × May 0x00B

-- A move is from a plain byte to a register that may be written.
pub record MoveFits (move : Move) : Type 0 where
  pub address : ℕ
  pub from : move.from ≡ place.Plain address
  pub below : address < 512
  pub there : reg_at address ≡ Plain address
  pub numbered : IsNumbered (reg_of move.to)
  pub written : may_be_written (reg_of move.to) ≡ true
  pub glue : is_glue_reg (reg_of move.to) ≡ true
