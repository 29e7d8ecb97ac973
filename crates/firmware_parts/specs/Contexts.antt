-- What a run has to give back to what it interrupted: the enables, the bank bits and PCLATH.
use Rattle.std.specs.Prelude.{◌≡◌, ℕ, ◌<◌, true, false}
use Rattle.pic_regs.specs.Bytes.{Byte, bits, bit}
use Rattle.pic_machine.specs.Chip.{Chip}
use Rattle.code_steps.specs.declared.banks.Bank.TheVariants.{Known}
use Rattle.code_steps.specs.Ends.{Holds}
use Rattle.firmware_parts.specs.Layout.{Layout, Easy}

-- The enables of one chip are those of another: T0IE, INTE, PEIE, PIE1 and PIE2.
pub record SameEnables (x c : Chip) : Type 0 where
  pub peie : c.regs.intcon.b6 ≡ x.regs.intcon.b6
  pub t0ie : c.regs.intcon.b5 ≡ x.regs.intcon.b5
  pub inte : c.regs.intcon.b4 ≡ x.regs.intcon.b4
  pub pie1 : c.regs.pie1 ≡ x.regs.pie1
  pub pie2 : c.regs.pie2 ≡ x.regs.pie2

-- The enables of a chip are those of a level. Where PEIE is clear, PIE1 and PIE2 count for nothing. RBIE is never set.
pub record AtLevel (l : Layout) (level : ℕ) (c : Chip) : Type 0 where
  pub peie : c.regs.intcon.b6 ≡ bit 6 (bits (l.enables level).intcon)
  pub t0ie : c.regs.intcon.b5 ≡ bit 5 (bits (l.enables level).intcon)
  pub inte : c.regs.intcon.b4 ≡ bit 4 (bits (l.enables level).intcon)
  pub rbie : c.regs.intcon.b3 ≡ false
  pub pie1 : c.regs.intcon.b6 ≡ true → c.regs.pie1 ≡ bits (l.enables level).pie1
  pub pie2 : c.regs.intcon.b6 ≡ true → c.regs.pie2 ≡ bits (l.enables level).pie2

-- The chip has the context of one that was interrupted.
pub record Back (x c : Chip) : Type 0 where
  pub enables : SameEnables x c
  pub rp1 : c.regs.status.b6 ≡ x.regs.status.b6
  pub rp0 : c.regs.status.b5 ≡ x.regs.status.b5
  pub pclath : c.regs.pclath ≡ x.regs.pclath

-- Where a run starts, after the chip `x` was interrupted: the enables are still those of `x`; its bank bits and PCLATH stand in 71h
-- and 72h where a taking saves them; bank 0 is chosen.
pub record Entered (l : Layout) (x c : Chip) : Type 0 where
  pub enables : SameEnables x c
  pub bank : Holds (Known 0) c
  pub easy : Easy l c
  pub rp1 : l.saves_status ≡ true → (c.regs.plain 0x071).b6 ≡ x.regs.status.b6
  pub rp0 : l.saves_status ≡ true → (c.regs.plain 0x071).b5 ≡ x.regs.status.b5
  pub pclath : l.saves_pclath ≡ true → c.regs.plain 0x072 ≡ x.regs.pclath
