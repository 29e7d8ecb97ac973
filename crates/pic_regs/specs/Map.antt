-- The register map: what each data address means, and which bits exist (data sheet DS30292, "Register File Map").
use Rattle.std.specs.Prelude.{ℕ, zero, suc, ◌+◌, ◌-◌, ◌/◌, ◌%◌, Bool, false, nat_le, ◌&&◌, ◌||◌, ◌==◌, if◌then◌else◌, Option, Some, None}
use Rattle.pic_regs.specs.Bytes.{Byte}

-- What an address of data memory means: nothing, a register that the chip treats in its own way, a port or its TRIS
-- by the port's number (0 for A to 4 for E), or a plain byte by its lowest address.
pub data Reg : Type 0 where
  Absent : Reg
  Indf : Reg
  Pcl : Reg
  Status : Reg
  Fsr : Reg
  Pclath : Reg
  Intcon : Reg
  Pir1 : Reg
  Pir2 : Reg
  Pie1 : Reg
  Pie2 : Reg
  Port : ℕ → Reg
  Tris : ℕ → Reg
  Plain : ℕ → Reg

-- A number between two bounds, both included.
abbrev pub within : ℕ → ℕ → ℕ → Bool
within low high n = nat_le low n && nat_le n high

-- The registers of bank 0, by the low seven bits of the address, but for those that are in each bank.
abbrev pub in_bank_0 : ℕ → Reg
in_bank_0 f =
    if within 0x05 0x09 f then Port (f - 0x05)
    else if f == 0x0C then Pir1
    else if f == 0x0D then Pir2
    else Plain f  -- TMR0; TMR1L to ADCON0; RAM

-- Those of bank 1.
abbrev pub in_bank_1 : ℕ → Reg
in_bank_1 f =
    if within 0x05 0x09 f then Tris (f - 0x05)
    else if f == 0x0C then Pie1
    else if f == 0x0D then Pie2
    else if f == 0x0F || f == 0x10 || within 0x15 0x17 f || within 0x1A 0x1D f then Absent
    else Plain (0x080 + f)  -- OPTION_REG; PCON; SSPCON2 to SSPSTAT; TXSTA, SPBRG; ADRESL, ADCON1; RAM

-- Those of bank 2.
abbrev pub in_bank_2 : ℕ → Reg
in_bank_2 f =
    if f == 0x01 then Plain 0x001  -- TMR0
    else if f == 0x06 then Port 1
    else if f == 0x05 || within 0x07 0x09 f then Absent
    else Plain (0x100 + f)  -- EEDATA to EEADRH; RAM

-- Those of bank 3.
abbrev pub in_bank_3 : ℕ → Reg
in_bank_3 f =
    if f == 0x01 then Plain 0x081  -- OPTION_REG
    else if f == 0x06 then Tris 1
    else if f == 0x05 || within 0x07 0x09 f || f == 0x0E || f == 0x0F then Absent
    else Plain (0x180 + f)  -- EECON1, EECON2; RAM

-- The registers of a bank, but for those that are in each bank.
abbrev pub in_bank : ℕ → ℕ → Reg
in_bank zero f = in_bank_0 f
in_bank (suc zero) f = in_bank_1 f
in_bank (suc (suc zero)) f = in_bank_2 f
in_bank _ f = in_bank_3 f

-- What the seven bits of an address mean in a bank. The registers in the first lines are in each bank, and so is RAM
-- from 70h on.
abbrev pub reg_in : ℕ → ℕ → Reg
reg_in bank f =
    if f == 0x00 then Indf
    else if f == 0x02 then Pcl
    else if f == 0x03 then Status
    else if f == 0x04 then Fsr
    else if f == 0x0A then Pclath
    else if f == 0x0B then Intcon
    else if nat_le 0x70 f then Plain f
    else in_bank bank f

-- What a data address means. It has nine bits, the upper two of which are the bank.
abbrev pub reg_at : ℕ → Reg
reg_at address = reg_in (address / 128) (address % 128)

-- The lowest address of a register, and None where there is no register.
abbrev pub lowest : Reg → Option ℕ
lowest Absent = None
lowest Indf = Some 0x000
lowest Pcl = Some 0x002
lowest Status = Some 0x003
lowest Fsr = Some 0x004
lowest Pclath = Some 0x00A
lowest Intcon = Some 0x00B
lowest Pir1 = Some 0x00C
lowest Pir2 = Some 0x00D
lowest Pie1 = Some 0x08C
lowest Pie2 = Some 0x08D
lowest (Port n) = Some (0x005 + n)
lowest (Tris n) = Some (0x085 + n)
lowest (Plain address) = Some address

-- The lowest address of the same register, and None for an address that is not implemented.
abbrev pub canonical : ℕ → Option ℕ
canonical address = lowest (reg_at address)

-- A port's byte with 0 at each bit that does not exist: PORTA lacks 7 and 6, PORTE 7 to 3.
abbrev pub port_bits : ℕ → Byte → Byte
port_bits zero x = record x { b7 = false; b6 = false }
port_bits (suc (suc (suc (suc zero)))) x = record x { b7 = false; b6 = false; b5 = false; b4 = false; b3 = false }
port_bits _ x = x

-- The same for its TRIS: TRISA lacks 7 and 6, TRISE 3.
abbrev pub tris_bits : ℕ → Byte → Byte
tris_bits zero x = record x { b7 = false; b6 = false }
tris_bits (suc (suc (suc (suc zero)))) x = record x { b3 = false }
tris_bits _ x = x

-- The same for any register: PCLATH has bits 4 to 0, PIR1 lacks 5 and 4, and PIR2 has 4, 3 and 0.
abbrev pub existing : Reg → Byte → Byte
existing Pclath x = record x { b7 = false; b6 = false; b5 = false }
existing Pir1 x = record x { b5 = false; b4 = false }
existing Pir2 x = record x { b7 = false; b6 = false; b5 = false; b2 = false; b1 = false }
existing (Port n) x = port_bits n x
existing (Tris n) x = tris_bits n x
existing _ x = x

-- A byte over an old one of a port, of a TRIS, of any register: each bit that does not exist stays as it was, and so do
-- TO and PD of STATUS, bits 4 and 3.
abbrev pub over_port : ℕ → Byte → Byte → Byte
over_port zero old x = record x { b7 = old.b7; b6 = old.b6 }
over_port (suc (suc (suc (suc zero)))) old x = record x { b7 = old.b7; b6 = old.b6; b5 = old.b5; b4 = old.b4; b3 = old.b3 }
over_port _ old x = x

abbrev pub over_tris : ℕ → Byte → Byte → Byte
over_tris zero old x = record x { b7 = old.b7; b6 = old.b6 }
over_tris (suc (suc (suc (suc zero)))) old x = record x { b3 = old.b3 }
over_tris _ old x = x

abbrev pub over : Reg → Byte → Byte → Byte
over Status old x = record x { b4 = old.b4; b3 = old.b3 }
over Pclath old x = record x { b7 = old.b7; b6 = old.b6; b5 = old.b5 }
over Pir1 old x = record x { b5 = old.b5; b4 = old.b4 }
over Pir2 old x = record x { b7 = old.b7; b6 = old.b6; b5 = old.b5; b2 = old.b2; b1 = old.b1 }
over (Port n) old x = over_port n old x
over (Tris n) old x = over_tris n old x
over _ old x = x
