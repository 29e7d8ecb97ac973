-- The results of instructions: bytes, flags, and where they are stored.
use Rattle.std.specs.Prelude.{ℕ, ◌+◌, ◌-◌, ◌%◌, Bool, not, nat_le, nat_lt, ◌&&◌, ◌||◌, if◌then◌else◌, Option, Some, None}
use Rattle.pic_isa.specs.declared.instructions.Dest.{Dest}
use Rattle.pic_isa.specs.declared.instructions.Dest.TheVariants.{W, F}
use Rattle.pic_regs.specs.Bytes.{Byte, num, bits, is_zero, bit_by_bit}
use Rattle.pic_regs.specs.Map.{Reg, Indf, Pcl, Status, Port, lowest}
use Rattle.pic_regs.specs.Registers.{Registers, write}
use Rattle.pic_machine.specs.declared.steps.PortWrite.{PortWrite}
use Rattle.pic_machine.specs.Chip.{Chip, led}

-- The flags that a result gives: none; Z; C; or C, DC and Z.
pub data Flags : Type 0 where
  Same : Flags
  Zero : Bool → Flags
  Carry : Bool → Flags
  All : Bool → Bool → Bool → Flags

-- The result of an instruction: its byte and its flags.
pub record Outcome : Type 0 where
  pub byte : Byte
  pub flags : Flags

-- A byte that gives no flags, and one that gives Z, which is 1 where the byte is 0.
abbrev pub just : Byte → Outcome
just x = record { byte = x; flags = Same }

abbrev pub tested : Byte → Outcome
tested x = record { byte = x; flags = Zero (is_zero x) }

-- x + y. C is the carry out of bit 7, DC that out of bit 3.
abbrev pub plus : Byte → Byte → Outcome
plus x y =
    let byte = bits (num x + num y) in
    record { byte = byte; flags = All (nat_lt 255 (num x + num y)) (nat_lt 15 (num x % 16 + num y % 16)) (is_zero byte) }

-- x - y. C and DC are 1 where there was no borrow, of the whole and of the lower half.
abbrev pub minus : Byte → Byte → Outcome
minus x y =
    let byte = bits (num x + 256 - num y) in
    record { byte = byte; flags = All (nat_le (num y) (num x)) (nat_le (num y % 16) (num x % 16)) (is_zero byte) }

-- The byte after this one and the byte before it, around 256.
abbrev pub one_more : Byte → Byte
one_more x = bits (num x + 1)

abbrev pub one_less : Byte → Byte
one_less x = bits (num x + 255)

-- And, or, exclusive or, and complement, bit by bit.
abbrev pub both : Byte → Byte → Byte
both = bit_by_bit (λ p q. p && q)

abbrev pub either : Byte → Byte → Byte
either = bit_by_bit (λ p q. p || q)

abbrev pub differing : Byte → Byte → Byte
differing = bit_by_bit (λ p q. if p then not q else q)

abbrev pub complement : Byte → Byte
complement x = record { b7 = not x.b7; b6 = not x.b6; b5 = not x.b5; b4 = not x.b4; b3 = not x.b3; b2 = not x.b2; b1 = not x.b1; b0 = not x.b0 }

-- The nine bits of C and a byte turned left, and right, by one.
abbrev pub turned_left : Bool → Byte → Outcome
turned_left c x =
    record { byte = record { b7 = x.b6; b6 = x.b5; b5 = x.b4; b4 = x.b3; b3 = x.b2; b2 = x.b1; b1 = x.b0; b0 = c }; flags = Carry x.b7 }

abbrev pub turned_right : Bool → Byte → Outcome
turned_right c x =
    record { byte = record { b7 = c; b6 = x.b7; b5 = x.b6; b4 = x.b5; b3 = x.b4; b2 = x.b3; b1 = x.b2; b0 = x.b1 }; flags = Carry x.b0 }

-- STATUS with the flags of a result; those that it doesn't give stay.
abbrev pub with_flags : Flags → Byte → Byte
with_flags Same status = status
with_flags (Zero z) status = record status { b2 = z }
with_flags (Carry c) status = record status { b0 = c }
with_flags (All c dc z) status = record status { b2 = z; b1 = dc; b0 = c }

abbrev pub flagged : Flags → Registers → Registers
flagged flags r = record r { status = with_flags flags r.status }

-- What a result puts into STATUS: its byte, or bits 7 to 5 alone where it gives flags.
abbrev pub status_byte : Flags → Byte → Byte → Byte
status_byte Same x status = x
status_byte flags x status = record status { b7 = x.b7; b6 = x.b6; b5 = x.b5 }

-- The chip with a result stored in a register, and then the flags.
abbrev pub stored : Reg → Outcome → Chip → Chip
stored Pcl result c = led result.byte (record c { regs = flagged result.flags c.regs })
stored Status result c =
    record c { regs = flagged result.flags (write Status (status_byte result.flags result.byte c.regs.status) c.regs) }
stored reg result c = record c { regs = flagged result.flags (write reg result.byte c.regs) }

-- The lowest address of a register as a destination: None where nothing is written, at INDF's own addresses too.
abbrev pub written : Reg → Option ℕ
written Indf = None
written reg = lowest reg

-- What a byte stored in a register puts on a port.
abbrev pub shown : Reg → Byte → Option PortWrite
shown (Port n) x = Some (record { port = n; byte = num x })
shown reg x = None

-- What an instruction leaves: the chip, the lowest address of the register that it wrote as its destination, and what
-- it put on a port.
pub record Done : Type 0 where
  pub chip : Chip
  pub wrote : Option ℕ
  pub port : Option PortWrite

-- An instruction that ends with no register as its destination.
abbrev pub leaves : Chip → Option Done
leaves c = Some (record { chip = c; wrote = None; port = None })

-- An instruction whose result goes to W, or to the register.
abbrev pub gives : Dest → Reg → Outcome → Chip → Option Done
gives W reg result c = leaves (record c { w = result.byte; regs = flagged result.flags c.regs })
gives F reg result c = Some (record { chip = stored reg result c; wrote = written reg; port = shown reg result.byte })
