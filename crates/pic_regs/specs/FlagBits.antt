-- The flags of sources by the addresses and bits of the table of sources.
use Rattle.std.specs.Prelude.{ℕ, true, ◌==◌, if◌then◌else◌}
use Rattle.pic_isa.specs.declared.sources.BitAt.{BitAt}
use Rattle.pic_regs.specs.Bytes.{Byte, with_bit}
use Rattle.pic_regs.specs.Registers.{Registers}

-- The register at an address that has flags: INTCON, PIR1, or else PIR2.
abbrev pub flags_at : ℕ → Registers → Byte
flags_at address r = if address == 0x00B then r.intcon else if address == 0x00C then r.pir1 else r.pir2

-- The registers with a bit of it set.
abbrev pub with_flag_at : BitAt → Registers → Registers
with_flag_at at r =
    if at.address == 0x00B then record r { intcon = with_bit at.bit true r.intcon }
    else if at.address == 0x00C then record r { pir1 = with_bit at.bit true r.pir1 }
    else record r { pir2 = with_bit at.bit true r.pir2 }
