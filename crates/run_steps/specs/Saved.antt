-- What a run has of the context of the chip that it interrupted.
use Rattle.std.specs.Prelude.{◌≡◌, ℕ, ◌<◌}
use Rattle.std.specs.Option.{ForSome}
use Rattle.pic_regs.specs.Bytes.{Byte, zeros}
use Rattle.pic_regs.specs.Places.{reg_of}
use Rattle.pic_regs.specs.Registers.{Registers, read}
use Rattle.pic_machine.specs.Chip.{Chip}
use Rattle.code_steps.specs.declared.banks.Bank.TheVariants.{Known}
use Rattle.code_steps.specs.Ends.{Holds}
use Rattle.firmware_parts.specs.Layout.{Layout, Usual}
use Rattle.firmware_parts.specs.Contexts.{AtLevel}
use Rattle.scratch_commit.specs.Effects.{effect_in}
use Rattle.scratch_commit.specs.Enables.{with_enables_of}
use Rattle.scratch_commit.specs.Laws.{Kept}
use Rattle.scratch_commit.specs.Masks.{masking}
use Rattle.scratch_commit.specs.Plans.{Plan, frame_in, masks_in}

-- What is interrupted at level 0 is the ready address, in bank 0 and with PCLATH 0.
pub record Idle (low : ℕ) (x : Chip) : Type 0 where
  pub bank : low ≡ 0 → Holds (Known 0) x
  pub page : low ≡ 0 → x.regs.pclath ≡ zeros

-- What the run's masks leave of registers.
abbrev pub masked_in : Plan → Registers → Registers
masked_in plan r = (effect_in (masking (masks_in plan))).change r

-- A byte of STATUS has the bank bits of a chip.
pub record HasBank (x : Chip) (status : Byte) : Type 0 where
  pub rp1 : status.b6 ≡ x.regs.status.b6
  pub rp0 : status.b5 ≡ x.regs.status.b5

-- The chip `c` has what the run gives back to `x`, which was at a lower level: its enables are those that masks left of those of `x`,
-- and what was saved stands in the run's frame.
pub record SavedBy (l : Layout) (plan : Plan) (x c : Chip) : Type 0 where
  pub low : ℕ
  pub below : low < plan.level
  pub at : AtLevel l low x
  pub usual : Usual l x
  pub idle : Idle low x
  pub masked : with_enables_of (masked_in plan x.regs) c.regs ≡ c.regs
  pub kept : Kept (frame_in plan) x.regs c.regs
  pub status : ForSome (frame_in plan).status (λ p. HasBank x (read (reg_of p) c.regs))
  pub pclath : ForSome (frame_in plan).pclath (λ p. read (reg_of p) c.regs ≡ x.regs.pclath)
