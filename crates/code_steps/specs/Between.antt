-- What may come between two own steps: others' runs, changes elsewhere, or arrivals alone.
use Rattle.std.specs.Prelude.{◌≡◌, ℕ, true}
use Rattle.pic_isa.specs.declared.sources.Source.{Source}
use Rattle.pic_regs.specs.Bytes.{Byte}
use Rattle.pic_regs.specs.Registers.{flag}
use Rattle.pic_machine.specs.Chip.{Chip}

-- Whole runs of others came between: the program counter, the bank bits and PCLATH are as before. All else may differ, W and
-- the flags too.
pub record Others (c d : Chip) : Type 0 where
  pub pc : d.pc ≡ c.pc
  pub rp1 : d.regs.status.b6 ≡ c.regs.status.b6
  pub rp0 : d.regs.status.b5 ≡ c.regs.status.b5
  pub pclath : d.regs.pclath ≡ c.regs.pclath

-- The program counter, W, STATUS, PCLATH and the plain bytes at some addresses are as before. All else may differ.
pub record Keeps (uses : ℕ → Type 0) (c d : Chip) : Type 0 where
  pub pc : d.pc ≡ c.pc
  pub w : d.w ≡ c.w
  pub status : d.regs.status ≡ c.regs.status
  pub pclath : d.regs.pclath ≡ c.regs.pclath
  pub cells : (address : ℕ) → uses address → d.regs.plain address ≡ c.regs.plain address

-- A chip with the sources' flags and the pins of another.
abbrev pub with_outside_of : Chip → Chip → Chip
with_outside_of d c = record c {
  regs = record c.regs {
    intcon = record c.regs.intcon { b2 = d.regs.intcon.b2; b1 = d.regs.intcon.b1 };
    pir1 = d.regs.pir1;
    pir2 = d.regs.pir2;
    pins = d.regs.pins;
  };
}

-- Only arrivals came between, and pins changed: all but the sources' flags and the pins is as before, and each flag that was
-- set still is.
pub record Alone (c d : Chip) : Type 0 where
  pub only : d ≡ with_outside_of d c
  pub flags : (source : Source) → flag source c.regs ≡ true → flag source d.regs ≡ true

-- The chip at another place, with another PCLATH.
abbrev pub placed_at : ℕ → Byte → Chip → Chip
placed_at place pclath c = record c { pc = place; regs = record c.regs { pclath = pclath } }

-- What all relations of this kind have in common: nothing need come between; the program counter and PCLATH stay; what comes
-- in two parts comes in one; and what comes depends on neither the place nor PCLATH.
pub record IsFrame (R : Chip → Chip → Type 0) : Type 0 where
  pub same : (c : Chip) → R c c
  pub pc : (c d : Chip) → R c d → d.pc ≡ c.pc
  pub pclath : (c d : Chip) → R c d → d.regs.pclath ≡ c.regs.pclath
  pub joined : (c d e : Chip) → R c d → R d e → R c e
  pub moved : (place : ℕ) (pclath : Byte) (c d : Chip) → R c d → R (placed_at place pclath c) (placed_at place pclath d)
