-- What the laws of `laws.rt` promise of deeds and enables.
use Rattle.std.specs.Prelude.{◌≡◌, ℕ, ◌<◌, true, List}
use Rattle.std.specs.List.{AllByRecursion}
use Rattle.std.specs.Option.{ForSome}
use Rattle.frp_tree.specs.Tree.{ProgramTree}
use Rattle.pic_regs.specs.Bytes.{Byte, bit, bits}
use Rattle.pic_regs.specs.Places.{reg_of}
use Rattle.pic_regs.specs.Registers.{Registers, read}
use Rattle.bank_alloc.specs.declared.needs.Needs.{Needs}
use Rattle.priority_masks.specs.declared.tables.Enables.{Enables}
use Rattle.code_steps.specs.declared.banks.Bank.{Bank}
use Rattle.glue_steps.specs.Stretches.{bits_of_bank}
use Rattle.glue_parts.specs.Heard.{IsHeardAt}
use Rattle.glue_parts.specs.Effects.{Blind, Makes}
use Rattle.glue_parts.specs.declared.spread.Context.{Context}
use Rattle.scratch_commit.specs.declared.frames.Frame.{Frame}
use Rattle.scratch_commit.specs.declared.kinds.Kind.{Kind}
use Rattle.scratch_commit.specs.declared.masks.Heard.{Heard}
use Rattle.scratch_commit.specs.Deeds.{Deed, bank_past, lines_in}
use Rattle.scratch_commit.specs.Effects.{DeedFits, effect_in}
use Rattle.scratch_commit.specs.Enables.{Hold, with_enables_of}
use Rattle.scratch_commit.specs.Frames.{frame_of, unmasking}
use Rattle.scratch_commit.specs.Masks.{AreHeard, masking, masks_of, saved_of, were_set}

-- Two answers to what is heard at a level are one.
abbrev pub HeardOnce : ProgramTree → (level : ℕ) → (e f : Enables) → Type 0
HeardOnce p level e f = IsHeardAt p level e → IsHeardAt p level f → e ≡ f

-- Masks lead from the enables of any lower level to those of the run's, and change nothing but enables.
abbrev pub masked_by : Heard → Registers → Registers
masked_by heard r = (effect_in (masking (masks_of heard))).change r

abbrev pub MasksLead : ProgramTree → (low level : ℕ) → Heard → Enables → Registers → Type 0
MasksLead p low level heard other r =
    AreHeard p level heard → IsHeardAt p low other → low < level → Hold other r
    → Hold heard.own (masked_by heard r) × (masked_by heard r ≡ with_enables_of (masked_by heard r) r)

-- What a run saved of the enables in `r` stands in its places in `s`: of INTCON the bits PEIE, T0IE and INTE.
pub record HasEnableBits (x intcon : Byte) : Type 0 where
  pub peie : x.b6 ≡ intcon.b6
  pub t0ie : x.b5 ≡ intcon.b5
  pub inte : x.b4 ≡ intcon.b4

pub record Kept (frame : Frame) (r s : Registers) : Type 0 where
  pub intcon : ForSome frame.intcon (λ p. HasEnableBits (read (reg_of p) s) r.intcon)
  pub pie1 : ForSome frame.pie1 (λ p. read (reg_of p) s ≡ r.pie1)
  pub pie2 : ForSome frame.pie2 (λ p. read (reg_of p) s ≡ r.pie2)

-- Where registers have the enables that masks left of `r`, and what was saved stands in its places, unmasking leaves exactly the
-- enables of `r`, and changes nothing else.
abbrev pub unmasked_by : Heard → Frame → Registers → Registers
unmasked_by heard frame s = (effect_in (unmasking (masks_of heard) frame)).change s

abbrev pub Unmasks : ProgramTree → (low level : ℕ) → Heard → Enables → Kind → Needs → Context → (r s : Registers) → Type 0
Unmasks p low level heard other kind need context r s =
    let frame : Frame = frame_of kind level need context (saved_of (masks_of heard)) in
    AreHeard p level heard → IsHeardAt p low other → low < level → Hold other r → with_enables_of (masked_by heard r) s ≡ s → Kept frame r s
    → unmasked_by heard frame s ≡ with_enables_of r s

-- Where a constant stands for a saved register, all lower levels agree in it: INTCON, PIE1, PIE2.
pub record Agrees (heard : Heard) (other : Enables) : Type 0 where
  pub intcon : were_set (masks_of heard).intcon ≡ true → bits other.intcon ≡ bits heard.beneath.intcon
  pub pie1 : bit 6 (bits heard.own.intcon) ≡ true → were_set (masks_of heard).pie1 ≡ true → bits other.pie1 ≡ bits heard.beneath.pie1
  pub pie2 : bit 6 (bits heard.own.intcon) ≡ true → were_set (masks_of heard).pie2 ≡ true → bits other.pie2 ≡ bits heard.beneath.pie2

abbrev pub ConstantsAgree : ProgramTree → (low level : ℕ) → Heard → Enables → Type 0
ConstantsAgree p low level heard other = AreHeard p level heard → IsHeardAt p low other → low < level → Agrees heard other

-- Deeds that are glue leave what they are to, in whatever bank is known.
abbrev pub DeedsMake : Bank → List Deed → Type 0
DeedsMake bank deeds =
    AllByRecursion DeedFits deeds → Makes (bits_of_bank bank) (bits_of_bank (bank_past bank deeds)) (effect_in deeds) (lines_in bank deeds) × Blind (effect_in deeds)
