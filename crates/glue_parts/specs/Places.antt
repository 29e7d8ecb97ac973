-- Registers that lines reach, and their banks.
use Rattle.std.specs.Prelude.{◌≡◌, ℕ, ◌/◌, ◌%◌, ◌<◌, Bool, true, false, not, nat_lt, ◌&&◌, if◌then◌else◌, Option, Some, None}
use Rattle.pic_regs.specs.declared.places.Place.{Place}
use Rattle.pic_regs.specs.declared.places.Place.TheVariants as place
use Rattle.pic_regs.specs.Map.{Reg, Absent, Indf, Pcl, Status, Fsr, Pclath, Intcon, Pir1, Pir2, Pie1, Pie2, Port, Tris, Plain, reg_at}
use Rattle.glue_steps.specs.Lines.{is_steady, takes_bit, takes_byte}

-- The bank of a register; None where it is in each bank, or where there is none.
abbrev pub bank_of : Reg → Option ℕ
bank_of Pir1 = Some 0
bank_of Pir2 = Some 0
bank_of (Port n) = Some 0
bank_of Pie1 = Some 1
bank_of Pie2 = Some 1
bank_of (Tris n) = Some 1
bank_of (Plain address) = if nat_lt (address % 128) 0x70 then Some (address / 128) else None
bank_of _ = None

-- There is such a register: a port's number is below 5, and a plain byte is the one that stands at its address, below 512.
abbrev pub IsNumbered : Reg → Type 0
IsNumbered Absent = ⊥
IsNumbered (Port n) = (n < 5)
IsNumbered (Tris n) = (n < 5)
IsNumbered (Plain address) = (address < 512) × (reg_at address ≡ Plain address)
IsNumbered _ = Unit {0}

-- It may be written whole, and isn't STATUS.
abbrev pub is_status : Reg → Bool
is_status Status = true
is_status _ = false

abbrev pub may_be_written : Reg → Bool
may_be_written reg = takes_byte reg && not (is_status reg)

-- A bit of it may be made what is given, and it isn't STATUS; it may be read to be copied, and isn't STATUS.
abbrev pub may_be_changed : Reg → ℕ → Bool
may_be_changed reg b = takes_bit reg b && not (is_status reg)

abbrev pub may_be_read : Reg → Bool
may_be_read reg = is_steady reg && not (is_status reg)

-- How the code names a register.
abbrev pub named : Reg → Place
named Absent = place.Absent
named Indf = place.Indf
named Pcl = place.Pcl
named Status = place.Status
named Fsr = place.Fsr
named Pclath = place.Pclath
named Intcon = place.Intcon
named Pir1 = place.Pir1
named Pir2 = place.Pir2
named Pie1 = place.Pie1
named Pie2 = place.Pie2
named (Port n) = place.Port n
named (Tris n) = place.Tris n
named (Plain address) = place.Plain address
