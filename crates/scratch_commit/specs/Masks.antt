-- The enables that a run clears, and how they are set again.
use Rattle.std.specs.Prelude.{ℕ, ◌-◌, Bool, true, false, not, ◌&&◌, if◌then◌else◌, Option, Some, None, List, [], ◌∷◌, ◌++◌}
use Rattle.frp_tree.specs.Tree.{ProgramTree}
use Rattle.pic_isa.specs.declared.bits.TheConstants.{INTE, PEIE, T0IE}
use Rattle.pic_regs.specs.declared.places.Place.{Place}
use Rattle.pic_regs.specs.declared.places.Place.TheVariants as place
use Rattle.pic_regs.specs.Bytes.{bits, bit, bit_by_bit, is_zero, num}
use Rattle.glue_parts.specs.Heard.{IsHeardAt}
use Rattle.scratch_commit.specs.declared.masks.Heard.{Heard}
use Rattle.scratch_commit.specs.declared.masks.Masked.{Masked}
use Rattle.scratch_commit.specs.declared.masks.Masks.{Masks}
use Rattle.scratch_commit.specs.declared.masks.Saved.{Saved}
use Rattle.scratch_commit.specs.Deeds.{Deed, Change, Copy, Make, SetIf}

-- They are the enables at idle, at a level of a program, and at the level beneath it.
pub record AreHeard (p : ProgramTree) (level : ℕ) (heard : Heard) : Type 0 where
  pub idle : IsHeardAt p 0 heard.idle
  pub own : IsHeardAt p level heard.own
  pub beneath : IsHeardAt p (level - 1) heard.beneath

-- A register of enables at a level: the bits that differ from those at idle are cleared.
abbrev pub masked : (idle own beneath : ℕ) → Masked
masked idle own beneath = record {
  cleared = num (bit_by_bit (λ p q. if p then not q else q) (bits idle) (bits own));
  own = own;
  beneath = beneath;
}

-- None of its bits is cleared.
abbrev pub unmasked : Masked
unmasked = record { cleared = 0x00; own = 0x00; beneath = 0x00 }

-- The registers of enables at a level. Where PEIE is cleared, PIE1 and PIE2 stay as they are.
abbrev pub masks_of : Heard → Masks
masks_of heard =
    if bit PEIE (bits heard.own.intcon) then record {
      intcon = masked heard.idle.intcon heard.own.intcon heard.beneath.intcon;
      pie1 = masked heard.idle.pie1 heard.own.pie1 heard.beneath.pie1;
      pie2 = masked heard.idle.pie2 heard.own.pie2 heard.beneath.pie2;
    } else record {
      intcon = masked heard.idle.intcon heard.own.intcon heard.beneath.intcon;
      pie1 = unmasked;
      pie2 = unmasked;
    }

-- No enable is cleared.
abbrev pub no_masks : Masks
no_masks = record { intcon = unmasked; pie1 = unmasked; pie2 = unmasked }

-- All bits that are cleared were set at the level beneath, and so in whatever the run interrupted.
abbrev pub were_set : Masked → Bool
were_set m = is_zero (bit_by_bit (λ p q. p && not q) (bits m.cleared) (bits m.beneath))

-- The registers that have to be saved are the others.
abbrev pub saved_of : Masks → Saved
saved_of masks = record {
  intcon = not (were_set masks.intcon);
  pie1 = not (were_set masks.pie1);
  pie2 = not (were_set masks.pie2);
}

-- The enables of the events at the level and beneath are cleared.
abbrev pub mask_bit : ℕ → Masked → List Deed
mask_bit b m = if bit b (bits m.cleared) then Make false place.Intcon b ∷ [] else []

abbrev pub masking : Masks → List Deed
masking masks =
    mask_bit T0IE masks.intcon ++ (mask_bit INTE masks.intcon ++ (mask_bit PEIE masks.intcon
    ++ (Change place.Pie1 masks.pie1.cleared masks.pie1.own ∷ Change place.Pie2 masks.pie2.cleared masks.pie2.own ∷ [])))

-- A bit of INTCON is set again: surely, or where it is set in the byte that was saved.
abbrev pub set_again : Option Place → (sure : Bool) → ℕ → Deed
set_again None sure b = Make true place.Intcon b
set_again (Some saved) sure b = if sure then Make true place.Intcon b else SetIf saved b

abbrev pub unmask_bit : ℕ → Masked → Option Place → List Deed
unmask_bit b m saved = if bit b (bits m.cleared) then set_again saved (bit b (bits m.beneath)) b ∷ [] else []

-- PIE1 or PIE2 is made again what was saved, or what it was at the level beneath.
abbrev pub unmask_register : Place → Masked → Option Place → Deed
unmask_register register m None = Change register m.cleared m.beneath
unmask_register register m (Some saved) = Copy saved register
