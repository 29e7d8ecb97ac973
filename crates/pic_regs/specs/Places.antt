-- Registers as the code names them.
use Rattle.std.specs.Prelude.{◌<◌}
use Rattle.pic_regs.specs.declared.places.Place.{Place}
use Rattle.pic_regs.specs.declared.places.Place.TheVariants as place
use Rattle.pic_regs.specs.Map.{Reg, Absent, Indf, Pcl, Status, Fsr, Pclath, Intcon, Pir1, Pir2, Pie1, Pie2, Port, Tris, Plain}

-- The register that a place in the code is.
abbrev pub reg_of : Place → Reg
reg_of place.Absent = Absent
reg_of place.Indf = Indf
reg_of place.Pcl = Pcl
reg_of place.Status = Status
reg_of place.Fsr = Fsr
reg_of place.Pclath = Pclath
reg_of place.Intcon = Intcon
reg_of place.Pir1 = Pir1
reg_of place.Pir2 = Pir2
reg_of place.Pie1 = Pie1
reg_of place.Pie2 = Pie2
reg_of (place.Port n) = Port n
reg_of (place.Tris n) = Tris n
reg_of (place.Plain address) = Plain address

-- Its number is in range: a port's below 5, an address below 512.
abbrev pub IsPlace : Place → Type 0
IsPlace (place.Port n) = (n < 5)
IsPlace (place.Tris n) = (n < 5)
IsPlace (place.Plain address) = (address < 512)
IsPlace _ = Unit {0}
