-- The sources of interrupts: names, numbers, flags and enables.
use Rattle.std.specs.Prelude.{ℕ, List, [], ◌∷◌, codes}
use Rattle.pic_isa.specs.declared.sources.Source.{Source}
use Rattle.pic_isa.specs.declared.sources.Source.TheVariants.{T0, Int, Psp, Ad, Ssp, Ccp1, Tmr2, Tmr1, Ee, Bcl, Ccp2}
use Rattle.pic_isa.specs.declared.sources.BitAt.{BitAt}

-- All sources, in the order of their numbers.
abbrev pub sources : List Source
sources = T0 ∷ Int ∷ Psp ∷ Ad ∷ Ssp ∷ Ccp1 ∷ Tmr2 ∷ Tmr1 ∷ Ee ∷ Bcl ∷ Ccp2 ∷ []

-- A source's name, and its number.
abbrev pub source_name : Source → List ℕ
source_name T0 = codes "T0"
source_name Int = codes "INT"
source_name Psp = codes "PSP"
source_name Ad = codes "AD"
source_name Ssp = codes "SSP"
source_name Ccp1 = codes "CCP1"
source_name Tmr2 = codes "TMR2"
source_name Tmr1 = codes "TMR1"
source_name Ee = codes "EE"
source_name Bcl = codes "BCL"
source_name Ccp2 = codes "CCP2"

abbrev pub source_number : Source → ℕ
source_number T0 = 0
source_number Int = 1
source_number Psp = 2
source_number Ad = 3
source_number Ssp = 4
source_number Ccp1 = 5
source_number Tmr2 = 6
source_number Tmr1 = 7
source_number Ee = 8
source_number Bcl = 9
source_number Ccp2 = 10

abbrev pub at : ℕ → ℕ → BitAt
at register place = record { address = register; bit = place }

-- Where a source's flag stands: in INTCON (00Bh), PIR1 (00Ch) or PIR2 (00Dh).
abbrev pub flag_of : Source → BitAt
flag_of T0 = at 0x00B 2
flag_of Int = at 0x00B 1
flag_of Psp = at 0x00C 7
flag_of Ad = at 0x00C 6
flag_of Ssp = at 0x00C 3
flag_of Ccp1 = at 0x00C 2
flag_of Tmr2 = at 0x00C 1
flag_of Tmr1 = at 0x00C 0
flag_of Ee = at 0x00D 4
flag_of Bcl = at 0x00D 3
flag_of Ccp2 = at 0x00D 0

-- Where a source's enable stands: in INTCON (00Bh), PIE1 (08Ch) or PIE2 (08Dh).
abbrev pub enable_of : Source → BitAt
enable_of T0 = at 0x00B 5
enable_of Int = at 0x00B 4
enable_of Psp = at 0x08C 7
enable_of Ad = at 0x08C 6
enable_of Ssp = at 0x08C 3
enable_of Ccp1 = at 0x08C 2
enable_of Tmr2 = at 0x08C 1
enable_of Tmr1 = at 0x08C 0
enable_of Ee = at 0x08D 4
enable_of Bcl = at 0x08D 3
enable_of Ccp2 = at 0x08D 0
