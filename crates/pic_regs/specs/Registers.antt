-- The registers: what they hold, what a read gives, what a write leaves, flags and requests.
use Rattle.std.specs.Prelude.{ℕ, Bool, ◌&&◌, ◌||◌}
use Rattle.pic_isa.specs.declared.sources.Source.{Source}
use Rattle.pic_isa.specs.declared.sources.Source.TheVariants.{T0, Int, Psp, Ad, Ssp, Ccp1, Tmr2, Tmr1, Ee, Bcl, Ccp2}
use Rattle.pic_regs.specs.Bytes.{Byte, num, zeros, chosen, share_a_bit, updated}
use Rattle.pic_regs.specs.Map.{Reg, Absent, Indf, Pcl, Status, Fsr, Pclath, Intcon, Pir1, Pir2, Pie1, Pie2, Port, Tris, Plain, existing, over, reg_at}

-- The registers of the chip: those that control depends on, the latch, TRIS and pins of each port by its number, and
-- all other bytes by their lowest address.
pub record Registers : Type 0 where
  pub status : Byte
  pub fsr : Byte
  pub pclath : Byte
  pub intcon : Byte
  pub pir1 : Byte
  pub pir2 : Byte
  pub pie1 : Byte
  pub pie2 : Byte
  pub latch : ℕ → Byte
  pub tris : ℕ → Byte
  pub pins : ℕ → Byte
  pub plain : ℕ → Byte

-- What a register holds. A port holds its latch where TRIS is 0 and its pins where TRIS is 1. INDF and PCL are no
-- registers of their own, and count as 0 here, as does an address that is not implemented.
abbrev pub held : Reg → Registers → Byte
held Absent r = zeros
held Indf r = zeros
held Pcl r = zeros
held Status r = r.status
held Fsr r = r.fsr
held Pclath r = r.pclath
held Intcon r = r.intcon
held Pir1 r = r.pir1
held Pir2 r = r.pir2
held Pie1 r = r.pie1
held Pie2 r = r.pie2
held (Port n) r = chosen (r.tris n) (r.latch n) (r.pins n)
held (Tris n) r = r.tris n
held (Plain address) r = r.plain address

-- What a read of a register gives: what it holds, with 0 at each bit that does not exist.
abbrev pub read : Reg → Registers → Byte
read reg r = existing reg (held reg r)

-- The byte that stands at a data address.
abbrev pub byte_at : Registers → ℕ → ℕ
byte_at r address = num (read (reg_at address) r)

-- The registers with the byte of one of them changed: a port's is its latch.
abbrev pub changed : Reg → (Byte → Byte) → Registers → Registers
changed Absent change r = r
changed Indf change r = r
changed Pcl change r = r
changed Status change r = record r { status = change r.status }
changed Fsr change r = record r { fsr = change r.fsr }
changed Pclath change r = record r { pclath = change r.pclath }
changed Intcon change r = record r { intcon = change r.intcon }
changed Pir1 change r = record r { pir1 = change r.pir1 }
changed Pir2 change r = record r { pir2 = change r.pir2 }
changed Pie1 change r = record r { pie1 = change r.pie1 }
changed Pie2 change r = record r { pie2 = change r.pie2 }
changed (Port n) change r = record r { latch = updated r.latch n (change (r.latch n)) }
changed (Tris n) change r = record r { tris = updated r.tris n (change (r.tris n)) }
changed (Plain address) change r = record r { plain = updated r.plain address (change (r.plain address)) }

-- What a write of a register leaves: the byte stands there, but for bits that ignore writes.
abbrev pub write : Reg → Byte → Registers → Registers
write reg x r = changed reg (λ old. over reg old x) r

-- The registers with other pins at a port.
abbrev pub with_pins : ℕ → Byte → Registers → Registers
with_pins n x r = record r { pins = updated r.pins n x }

-- A source's bit, where T0's and INT's are given, and those of the others stand in two bytes: PIR1 and PIR2 for flags,
-- PIE1 and PIE2 for enables.
abbrev pub bit_of : Source → Bool → Bool → Byte → Byte → Bool
bit_of T0 t0 int first second = t0
bit_of Int t0 int first second = int
bit_of Psp t0 int first second = first.b7
bit_of Ad t0 int first second = first.b6
bit_of Ssp t0 int first second = first.b3
bit_of Ccp1 t0 int first second = first.b2
bit_of Tmr2 t0 int first second = first.b1
bit_of Tmr1 t0 int first second = first.b0
bit_of Ee t0 int first second = second.b4
bit_of Bcl t0 int first second = second.b3
bit_of Ccp2 t0 int first second = second.b0

-- A source's flag, and its enable.
abbrev pub flag : Source → Registers → Bool
flag source r = bit_of source r.intcon.b2 r.intcon.b1 r.pir1 r.pir2

abbrev pub enable : Source → Registers → Bool
enable source r = bit_of source r.intcon.b5 r.intcon.b4 r.pie1 r.pie2

-- An interrupt is requested: GIE is set, and T0IE and T0IF, or INTE and INTF, or RBIE and RBIF, or else PEIE and
-- some pair of PIE1 and PIR1 or of PIE2 and PIR2.
abbrev pub requested : Registers → Bool
requested r =
    r.intcon.b7 && (r.intcon.b5 && r.intcon.b2 || r.intcon.b4 && r.intcon.b1 || r.intcon.b3 && r.intcon.b0
    || r.intcon.b6 && (share_a_bit r.pie1 (read Pir1 r) || share_a_bit r.pie2 (read Pir2 r)))
