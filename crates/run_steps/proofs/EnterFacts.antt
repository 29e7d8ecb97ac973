-- The deeds of a run before the clearing of its flag: they fit, and what they leave.
use Rattle.std.proofs.Common.{◌≡◌, ℕ, Bool, true, false, if◌then◌else◌, Option, Some, None, List, [], ◌∷◌, ◌++◌, refl, ap, ◌∙◌, arith, lit<}
use Rattle.std.specs.List.{AllByRecursion}
use Rattle.pic_isa.specs.declared.bits.TheConstants.{INTE, PEIE, T0IE}
use Rattle.pic_regs.specs.declared.places.Place.{Place}
use Rattle.pic_regs.specs.declared.places.Place.TheVariants as place
use Rattle.pic_regs.specs.Bytes.{Byte, bits, bit, is_zero}
use Rattle.pic_regs.specs.Map.{Pie1, Pie2}
use Rattle.pic_regs.specs.Places.{reg_of}
use Rattle.pic_regs.specs.Registers.{Registers}
use Rattle.bank_alloc.specs.declared.needs.Needs.{Needs}
use Rattle.bank_alloc.specs.Addresses.{address_of}
use Rattle.code_steps.specs.declared.banks.Bank.{Bank}
use Rattle.code_steps.specs.declared.banks.Bank.TheVariants.{Known}
use Rattle.glue_parts.specs.declared.kept.TheConstants.{SAVED_PCLATH, SAVED_STATUS}
use Rattle.glue_parts.specs.Effects.{change_made, none}
use Rattle.glue_parts.specs.Kept.{frame_cell}
use Rattle.glue_parts.specs.Pieces.{only_bit}
use Rattle.glue_parts.specs.Places.{IsNumbered, may_be_read}
use Rattle.scratch_commit.specs.Deeds.{Deed, Change, Choose, Copy, Make, bank_past}
use Rattle.scratch_commit.specs.Effects.{DeedFits, effect_in, effect_of}
use Rattle.scratch_commit.specs.Frames.{saving, wanted}
use Rattle.scratch_commit.specs.Masks.{mask_bit, masking}
use Rattle.scratch_commit.specs.Plans.{Plan, masks_in}
use Rattle.scratch_commit.proofs.DeedLaws.{all_both, bank_then}
use Rattle.scratch_commit.specs.Enables.{with_enables_of}
use Rattle.scratch_commit.proofs.EffectLaws.{effect_then}
use Rattle.scratch_commit.proofs.EnableLaws.{masking_blind}
use Rattle.run_steps.proofs.FrameFacts.{HasFrame, IsLow, bytes_differ, here_stored, low_byte, low_numbered, other_kept, saved_bank, saving_leaves, stored_if}

-- Deeds that put nothing on a port.
abbrev pub Quiet : Deed → Type 0
Quiet deed = (r : Registers) → (effect_of deed).puts r ≡ []

pub quiet_in : (deeds : List Deed) → AllByRecursion Quiet deeds → (r : Registers) → (effect_in deeds).puts r ≡ []
quiet_in [] quiet r = refl
quiet_in (deed ∷ deeds) quiet r =
    ap (λ puts. puts ++ (effect_in deeds).puts ((effect_of deed).change r)) (quiet.0 r) ∙ quiet_in deeds quiet.1 ((effect_of deed).change r)

-- A register of enables is changed.
pub pie1_quiet : (changing byte : ℕ) → Quiet (Change place.Pie1 changing byte)
pie1_quiet changing byte r = by_test (is_zero (bits changing)) (only_bit changing)
  where
    by_test : (z : Bool) (o : Option ℕ) → (if z then none else change_made o Pie1 byte).puts r ≡ []
    by_test true o = refl
    by_test false None = refl
    by_test false (Some b) = refl

pub pie2_quiet : (changing byte : ℕ) → Quiet (Change place.Pie2 changing byte)
pie2_quiet changing byte r = by_test (is_zero (bits changing)) (only_bit changing)
  where
    by_test : (z : Bool) (o : Option ℕ) → (if z then none else change_made o Pie2 byte).puts r ≡ []
    by_test true o = refl
    by_test false None = refl
    by_test false (Some b) = refl

-- What holds of a deed that saves a register where it is wanted holds of saving it or not.
pub saving_all : (P : Deed → Type 0) (register : Place) (t : Bool) (address : ℕ) → P (Copy register (place.Plain address))
    → AllByRecursion P (saving register (wanted t (place.Plain address)))
saving_all P register true address holds = (holds, tt)
saving_all P register false address holds = tt

-- A register that depends on no flag is copied to a byte in bank 0.
pub copy_fits : (register : Place) (address : ℕ) → IsLow address → IsNumbered (reg_of register) → may_be_read (reg_of register) ≡ true → DeedFits (Copy register (place.Plain address))
copy_fits register address low numbered may = (numbered, low_numbered address low, may, refl)

-- Masks.
mask_all : (P : Deed → Type 0) (b : ℕ) (t : Bool) → P (Make false place.Intcon b) → AllByRecursion P (if t then Make false place.Intcon b ∷ [] else [])
mask_all P b true holds = (holds, tt)
mask_all P b false holds = tt

pub masking_all : (P : Deed → Type 0) (plan : Plan) → P (Make false place.Intcon 5) → P (Make false place.Intcon 4) → P (Make false place.Intcon 6)
    → P (Change place.Pie1 (masks_in plan).pie1.cleared (masks_in plan).pie1.own) → P (Change place.Pie2 (masks_in plan).pie2.cleared (masks_in plan).pie2.own) → AllByRecursion P (masking (masks_in plan))
masking_all P plan five four six first second =
    all_both P (mask_bit T0IE (masks_in plan).intcon) _ (mask_all P 5 (bit T0IE (bits (masks_in plan).intcon.cleared)) five)
    (all_both P (mask_bit INTE (masks_in plan).intcon) _ (mask_all P 4 (bit INTE (bits (masks_in plan).intcon.cleared)) four) (all_both P (mask_bit PEIE (masks_in plan).intcon) _ (mask_all P 6 (bit PEIE (bits (masks_in plan).intcon.cleared)) six) (first, (second, tt))))

-- The two copies of a level between: of STATUS and PCLATH as the taking put them.
module _ (need : Needs) (level : ℕ) (has : HasFrame need level) (s t : Bool) where
  abbrev at1 : ℕ
  at1 = address_of need (frame_cell need level 1)

  abbrev at2 : ℕ
  at2 = address_of need (frame_cell need level 2)

  low1 : IsLow at1
  low1 = low_byte need level 1 has (lit< tt)

  low2 : IsLow at2
  low2 = low_byte need level 2 has (lit< tt)

  abbrev pub two_copies : List Deed
  two_copies = saving SAVED_STATUS (wanted s (place.Plain at1)) ++ saving SAVED_PCLATH (wanted t (place.Plain at2))

  pub copies_all : (P : Deed → Type 0) → P (Copy SAVED_STATUS (place.Plain at1)) → P (Copy SAVED_PCLATH (place.Plain at2)) → AllByRecursion P two_copies
  copies_all P first second =
      all_both P (saving SAVED_STATUS (wanted s (place.Plain at1))) (saving SAVED_PCLATH (wanted t (place.Plain at2)))
      (saving_all P SAVED_STATUS s at1 first) (saving_all P SAVED_PCLATH t at2 second)

  pub copies_bank : bank_past (Known 0) two_copies ≡ Known 0
  copies_bank =
      bank_then (Known 0) (saving SAVED_STATUS (wanted s (place.Plain at1))) (saving SAVED_PCLATH (wanted t (place.Plain at2)))
      ∙ ap (λ b. bank_past b (saving SAVED_PCLATH (wanted t (place.Plain at2)))) (saved_bank SAVED_STATUS s at1 low1 (Known 0) refl refl)
      ∙ saved_bank SAVED_PCLATH t at2 low2 (Known 0) refl refl

  -- The plain bytes behind them.
  abbrev pub copied_bytes : Registers → ℕ → Byte
  copied_bytes r = stored_if t at2 (stored_if s at1 (r.plain 0x071) r.plain 0x072) (stored_if s at1 (r.plain 0x071) r.plain)

  pub copies_leave : (r : Registers) → (effect_in two_copies).change r ≡ record r { plain = copied_bytes r }
  copies_leave r =
      effect_then (saving SAVED_STATUS (wanted s (place.Plain at1))) (saving SAVED_PCLATH (wanted t (place.Plain at2))) r
      ∙ ap (λ x. (effect_in (saving SAVED_PCLATH (wanted t (place.Plain at2)))).change x) (saving_leaves SAVED_STATUS s at1 r)
      ∙ saving_leaves SAVED_PCLATH t at2 (record r { plain = stored_if s at1 (r.plain 0x071) r.plain })

  pub status_copied : (r : Registers) → s ≡ true → copied_bytes r at1 ≡ r.plain 0x071
  status_copied r is =
      other_kept t at2 at1 _ (stored_if s at1 (r.plain 0x071) r.plain) (bytes_differ need level 1 2 has (lit< tt) (lit< tt) (λ e. absurd (omega (arith, e))))
      ∙ here_stored s at1 (r.plain 0x071) r.plain is

  pub pclath_copied : (r : Registers) → t ≡ true → copied_bytes r at2 ≡ r.plain 0x072
  pclath_copied r is =
      let far = low1.below in
      here_stored t at2 _ (stored_if s at1 (r.plain 0x071) r.plain) is
      ∙ other_kept s at1 0x072 (r.plain 0x071) r.plain (λ e. absurd (omega (arith, e, far)))

-- The rest: PIE1 and PIE2 saved where they have to be, masks, and bank 0.
module _ (need : Needs) (level : ℕ) (has : HasFrame need level) (u v : Bool) (plan : Plan) where
  abbrev at4 : ℕ
  at4 = address_of need (frame_cell need level 4)

  abbrev at5 : ℕ
  at5 = address_of need (frame_cell need level 5)

  abbrev pies : List Deed
  pies = saving place.Pie1 (wanted u (place.Plain at4)) ++ saving place.Pie2 (wanted v (place.Plain at5))

  abbrev pub last_deeds : List Deed
  last_deeds = pies ++ (masking (masks_in plan) ++ Choose 0 ∷ [])

  pub last_all : (P : Deed → Type 0) → P (Copy place.Pie1 (place.Plain at4)) → P (Copy place.Pie2 (place.Plain at5)) → AllByRecursion P (masking (masks_in plan)) → P (Choose 0)
      → AllByRecursion P last_deeds
  last_all P first second masks home =
      all_both P pies (masking (masks_in plan) ++ Choose 0 ∷ [])
      (all_both P (saving place.Pie1 (wanted u (place.Plain at4))) (saving place.Pie2 (wanted v (place.Plain at5)))
      (saving_all P place.Pie1 u at4 first) (saving_all P place.Pie2 v at5 second))
      (all_both P (masking (masks_in plan)) (Choose 0 ∷ []) masks (home, tt))

  pub last_bank : (bank : Bank) → bank_past bank last_deeds ≡ Known 0
  last_bank bank = bank_then bank pies (masking (masks_in plan) ++ Choose 0 ∷ []) ∙ bank_then (bank_past bank pies) (masking (masks_in plan)) (Choose 0 ∷ [])

  abbrev pub saved_bytes : Registers → ℕ → Byte
  saved_bytes r = stored_if v at5 r.pie2 (stored_if u at4 r.pie1 r.plain)

  pies_leave : (r : Registers) → (effect_in pies).change r ≡ record r { plain = saved_bytes r }
  pies_leave r =
      effect_then (saving place.Pie1 (wanted u (place.Plain at4))) (saving place.Pie2 (wanted v (place.Plain at5))) r
      ∙ ap (λ x. (effect_in (saving place.Pie2 (wanted v (place.Plain at5)))).change x) (saving_leaves place.Pie1 u at4 r)
      ∙ saving_leaves place.Pie2 v at5 (record r { plain = stored_if u at4 r.pie1 r.plain })

  -- From registers with the enables of others, masks lead where they lead from those.
  pub last_leave : (r o : Registers) → r ≡ with_enables_of o r
      → (effect_in last_deeds).change r ≡ with_enables_of ((effect_in (masking (masks_in plan))).change o) (record r { plain = saved_bytes r })
  last_leave r o same =
      effect_then pies (masking (masks_in plan) ++ Choose 0 ∷ []) r
      ∙ ap (λ x. (effect_in (masking (masks_in plan) ++ Choose 0 ∷ [])).change x) (pies_leave r)
      ∙ effect_then (masking (masks_in plan)) (Choose 0 ∷ []) (record r { plain = saved_bytes r })
      ∙ ap (λ x. (effect_in (masking (masks_in plan))).change (record x { plain = saved_bytes r })) same
      ∙ masking_blind (masks_in plan) o (record r { plain = saved_bytes r })

  pub pie1_stored : (r : Registers) → u ≡ true → saved_bytes r at4 ≡ r.pie1
  pie1_stored r is =
      other_kept v at5 at4 r.pie2 (stored_if u at4 r.pie1 r.plain) (bytes_differ need level 4 5 has (lit< tt) (lit< tt) (λ e. absurd (omega (arith, e))))
      ∙ here_stored u at4 r.pie1 r.plain is

  pub pie2_stored : (r : Registers) → v ≡ true → saved_bytes r at5 ≡ r.pie2
  pie2_stored r is = here_stored v at5 r.pie2 (stored_if u at4 r.pie1 r.plain) is

  -- Other bytes stay.
  pub bytes_kept : (r : Registers) (address : ℕ) → (address ≡ at4 → ⊥) → (address ≡ at5 → ⊥) → saved_bytes r address ≡ r.plain address
  bytes_kept r address four five = other_kept v at5 address r.pie2 (stored_if u at4 r.pie1 r.plain) five ∙ other_kept u at4 address r.pie1 r.plain four
