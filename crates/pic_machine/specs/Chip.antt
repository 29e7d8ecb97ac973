-- The chip, and what moves its program counter, its return stack and GIE.
use Rattle.std.specs.Prelude.{ℕ, ◌+◌, ◌-◌, ◌*◌, ◌%◌, min, Bool, if◌then◌else◌}
use Rattle.pic_regs.specs.Bytes.{Byte, num, bits, one_if, updated}
use Rattle.pic_regs.specs.Map.{Reg, Indf, Pcl, Pclath, reg_at, reg_in}
use Rattle.pic_regs.specs.Registers.{Registers, read}

-- The chip: W, the program counter, the registers, the return stack with the place that the next push fills and the
-- counted depth, and whether an interrupt is due: one that was requested waits one instruction for its taking. Program
-- memory never changes and stands apart.
pub record Chip : Type 0 where
  pub w : Byte
  pub pc : ℕ
  pub regs : Registers
  pub stack : ℕ → ℕ
  pub top : ℕ
  pub depth : ℕ
  pub due : Bool

-- The chip with the program counter at the next address.
abbrev pub advanced : Chip → Chip
advanced c = record c { pc = (c.pc + 1) % 8192 }

-- The chip past one more instruction, where the test holds.
abbrev pub skipping : Bool → Chip → Chip
skipping test c = record c { pc = if test then (c.pc + 1) % 8192 else c.pc }

-- An address pushed on the return stack. It has eight places, of which the ninth push fills the first again; the depth
-- counts up to 255.
abbrev pub pushed : ℕ → Chip → Chip
pushed address c = record c { stack = updated c.stack c.top address; top = (c.top + 1) % 8; depth = min (c.depth + 1) 255 }

-- The program counter popped from the return stack: it is what the place below the top holds. The depth counts down to 0.
abbrev pub popped : Chip → Chip
popped c = let below = (c.top + 7) % 8 in record c { pc = c.stack below; top = below; depth = c.depth - 1 }

-- The chip with GIE made what is given.
abbrev pub with_gie : Bool → Chip → Chip
with_gie gie c = record c { regs = record c.regs { intcon = record c.regs.intcon { b7 = gie } } }

-- The chip at an address of 11 bits, below bits 4 and 3 of PCLATH.
abbrev pub jumped : ℕ → Chip → Chip
jumped k c = record c { pc = 4096 * one_if c.regs.pclath.b4 + 2048 * one_if c.regs.pclath.b3 + k }

-- The register at IRP and FSR. At INDF's own addresses it is INDF.
abbrev pub indirect : Registers → Reg
indirect r = reg_at (256 * one_if r.status.b7 + num r.fsr)

-- INDF stands for the register at IRP and FSR, each other register for itself.
abbrev pub through : Registers → Reg → Reg
through r Indf = indirect r
through r reg = reg

-- The bank that RP1 and RP0 choose.
abbrev pub bank : Registers → ℕ
bank r = 2 * one_if r.status.b6 + one_if r.status.b5

-- The register that seven bits of an instruction name in that bank.
abbrev pub named : ℕ → Registers → Reg
named f r = through r (reg_in (bank r) f)

-- What an instruction reads in a register, when the program counter is already at the next address, whose low eight
-- bits are PCL.
abbrev pub got : Reg → Chip → Byte
got Pcl c = bits c.pc
got reg c = read reg c.regs

-- The chip where a byte written to PCL leads: to the address of PCLATH's five bits and the byte.
abbrev pub led : Byte → Chip → Chip
led x c = record c { pc = 256 * num (read Pclath c.regs) + num x }
