-- Sets of sources: what arrives, what is latched, and what is merged.
use Rattle.std.specs.Prelude.{ℕ, ◌+◌, ◌*◌, ◌/◌, ◌%◌, ◌^◌, Bool, false, not, ◌&&◌, ◌||◌, ◌==◌}
use Rattle.pic_isa.specs.declared.sources.Source.{Source}
use Rattle.pic_isa.specs.declared.sources.Source.TheVariants.{T0, Int, Psp, Ad, Ssp, Ccp1, Tmr2, Tmr1, Ee, Bcl, Ccp2}
use Rattle.pic_isa.specs.Sources.{source_number}
use Rattle.pic_regs.specs.Bytes.{one_if}
use Rattle.pic_regs.specs.Registers.{Registers, flag}

-- A set of sources, as those that arrive at a boundary.
abbrev pub Sources : Type 0
Sources = Source → Bool

abbrev pub no_source : Sources
no_source source = false

-- The set that a number below 2048 is: bit i tells of the source with number i.
abbrev pub set_of : ℕ → Sources
set_of n source = (n / 2 ^ source_number source % 2) == 1

-- The number that a set is.
abbrev pub number_of : Sources → ℕ
number_of set =
    one_if (set T0) + 2 * one_if (set Int) + 4 * one_if (set Psp) + 8 * one_if (set Ad) + 16 * one_if (set Ssp) + 32 * one_if (set Ccp1)
    + 64 * one_if (set Tmr2) + 128 * one_if (set Tmr1) + 256 * one_if (set Ee) + 512 * one_if (set Bcl) + 1024 * one_if (set Ccp2)

-- The arriving sources that are latched, whose flag is clear, and those that are merged, whose flag is set.
abbrev pub latched : Sources → Registers → Sources
latched arrivals r source = arrivals source && not (flag source r)

abbrev pub merged : Sources → Registers → Sources
merged arrivals r source = arrivals source && flag source r

-- The registers with the flag of each arriving source set, enabled or not.
abbrev pub arrived : Sources → Registers → Registers
arrived arrivals r = record r {
  intcon = record r.intcon { b2 = arrivals T0 || r.intcon.b2; b1 = arrivals Int || r.intcon.b1 };
  pir1 = record r.pir1 {
    b7 = arrivals Psp || r.pir1.b7;
    b6 = arrivals Ad || r.pir1.b6;
    b3 = arrivals Ssp || r.pir1.b3;
    b2 = arrivals Ccp1 || r.pir1.b2;
    b1 = arrivals Tmr2 || r.pir1.b1;
    b0 = arrivals Tmr1 || r.pir1.b0;
  };
  pir2 = record r.pir2 { b4 = arrivals Ee || r.pir2.b4; b3 = arrivals Bcl || r.pir2.b3; b0 = arrivals Ccp2 || r.pir2.b0 };
}
