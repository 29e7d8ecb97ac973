-- Registers that hold the enables of a level.
use Rattle.std.specs.Prelude.{◌≡◌, true, false}
use Rattle.pic_regs.specs.Bytes.{bit, bits}
use Rattle.pic_regs.specs.Registers.{Registers}
use Rattle.priority_masks.specs.declared.tables.Enables.{Enables}

-- T0IE, INTE and PEIE are these, RBIE is clear; and where PEIE is set, PIE1 and PIE2 are these.
pub record Hold (enables : Enables) (r : Registers) : Type 0 where
  pub t0ie : r.intcon.b5 ≡ bit 5 (bits enables.intcon)
  pub inte : r.intcon.b4 ≡ bit 4 (bits enables.intcon)
  pub peie : r.intcon.b6 ≡ bit 6 (bits enables.intcon)
  pub rbie : r.intcon.b3 ≡ false
  pub pie1 : bit 6 (bits enables.intcon) ≡ true → r.pie1 ≡ bits enables.pie1
  pub pie2 : bit 6 (bits enables.intcon) ≡ true → r.pie2 ≡ bits enables.pie2

-- The registers `r` with the enables of others: T0IE, INTE, PEIE, PIE1 and PIE2.
abbrev pub with_enables_of : Registers → Registers → Registers
with_enables_of e r = record r {
  intcon = record r.intcon { b6 = e.intcon.b6; b5 = e.intcon.b5; b4 = e.intcon.b4 };
  pie1 = e.pie1;
  pie2 = e.pie2;
}
