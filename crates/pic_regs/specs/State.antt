-- The definitions' registers that those of the code stand for.
use Rattle.std.specs.Prelude.{ℕ, List, get_or}
use Rattle.pic_regs.specs.declared.state.Regs.{Regs}
use Rattle.pic_regs.specs.Bytes.{Byte, bits}
use Rattle.pic_regs.specs.Registers.{Registers}

-- Bytes in order, as a memory, with the same byte at each place past their end.
abbrev pub memory_of : ℕ → List ℕ → ℕ → Byte
memory_of past list place = bits (get_or list place past)

-- The registers that the code's are. Past port 4 a latch and pins are 0 and TRIS is FFh, as at power-on: no address
-- means a register there.
abbrev pub registers_of : Regs → Registers
registers_of r = record {
  status = bits r.status;
  fsr = bits r.fsr;
  pclath = bits r.pclath;
  intcon = bits r.intcon;
  pir1 = bits r.pir1;
  pir2 = bits r.pir2;
  pie1 = bits r.pie1;
  pie2 = bits r.pie2;
  latch = memory_of 0x00 r.latch;
  tris = memory_of 0xFF r.tris;
  pins = memory_of 0x00 r.pins;
  plain = memory_of 0x00 r.plain;
}
