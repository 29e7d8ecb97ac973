-- The lines of small pieces of glue, in a bank, and the bank behind them.
use Rattle.std.specs.Prelude.{◌≡◌, ℕ, ◌/◌, ◌%◌, Bool, true, false, ◌==◌, if◌then◌else◌, Option, Some, None, List, [], ◌∷◌, ◌++◌}
use Rattle.pic_isa.specs.declared.sources.Source.{Source}
use Rattle.pic_isa.specs.Sources.{flag_of}
use Rattle.pic_regs.specs.declared.places.Place.{Place}
use Rattle.pic_regs.specs.declared.places.Place.TheVariants as place
use Rattle.pic_regs.specs.Bytes.{bits, bit, is_zero}
use Rattle.pic_regs.specs.Map.{reg_at}
use Rattle.pic_regs.specs.Places.{reg_of}
use Rattle.code_steps.specs.declared.banks.Bank.{Bank}
use Rattle.code_steps.specs.declared.banks.Bank.TheVariants.{Known, Unknown}
use Rattle.code_acts.specs.Acts.{agrees}
use Rattle.code_acts.specs.Codes.{low_bit, high_bit, moved}
use Rattle.glue_steps.specs.declared.lines.Line.{Line}
use Rattle.glue_steps.specs.declared.lines.Line.TheVariants.{Constant, Load, Store, Clear, Bit, Lower, Skip}
use Rattle.glue_parts.specs.declared.stretches.Stretch.{Stretch}
use Rattle.glue_parts.specs.Places.{bank_of}

-- A bit is known to be this; and its setting, where it isn't.
abbrev pub knows : Option Bool → Bool → Bool
knows (Some known) v = agrees known v
knows None v = false

abbrev pub bit_lines : (b : ℕ) → Option Bool → Bool → List Line
bit_lines b known v = if knows known v then [] else Bit v place.Status b ∷ []

-- The bank is known to be this one.
abbrev pub is_known : Bank → ℕ → Bool
is_known Unknown k = false
is_known (Known bank) k = bank == k

-- The choice of a bank: none where it is known to be chosen; bank 0 by clearing STATUS, another by its two bits.
abbrev pub lines_to_choose : Bank → ℕ → List Line
lines_to_choose bank k =
    if is_known bank k then []
    else if k == 0 then Clear place.Status ∷ []
    else bit_lines 5 (low_bit bank) (k % 2 == 1) ++ bit_lines 6 (high_bit bank) (k / 2 == 1)

-- The choice of a register's bank, where it has one.
abbrev pub lines_for : Bank → Option ℕ → List Line
lines_for bank None = []
lines_for bank (Some k) = lines_to_choose bank k

-- The register is made a byte.
abbrev pub writing : Place → ℕ → List Line
writing p byte = if is_zero (bits byte) then Clear p ∷ [] else Constant byte ∷ Store p ∷ []

abbrev pub lines_to_write : Bank → Place → ℕ → List Line
lines_to_write bank p byte = lines_for bank (bank_of (reg_of p)) ++ writing p byte

-- W is made what a register holds; and a register is made W.
abbrev pub lines_to_load : Bank → Place → List Line
lines_to_load bank p = lines_for bank (bank_of (reg_of p)) ++ Load p ∷ []

abbrev pub lines_to_store : Bank → Place → List Line
lines_to_store bank p = lines_for bank (bank_of (reg_of p)) ++ Store p ∷ []

-- The bank behind a store: it isn't known where STATUS is stored.
abbrev pub bank_stored : Bank → Place → Bank
bank_stored bank place.Status = Unknown
bank_stored bank p = moved bank (bank_of (reg_of p))

-- One register is copied to another.
abbrev pub lines_to_copy : Bank → (from to : Place) → List Line
lines_to_copy bank from to = lines_to_load bank from ++ lines_to_store (moved bank (bank_of (reg_of from))) to

abbrev pub bank_copied : Bank → (from to : Place) → Bank
bank_copied bank from to = bank_stored (moved bank (bank_of (reg_of from))) to

-- The bit that alone is set in a byte, where just one is.
abbrev pub only_bit : ℕ → Option ℕ
only_bit byte =
    if byte == 0x01 then Some 0
    else if byte == 0x02 then Some 1
    else if byte == 0x04 then Some 2
    else if byte == 0x08 then Some 3
    else if byte == 0x10 then Some 4
    else if byte == 0x20 then Some 5
    else if byte == 0x40 then Some 6
    else if byte == 0x80 then Some 7
    else None

-- The register, which differs from the byte at most in the bits that change, is made the byte: by one bit where one changes.
abbrev pub lines_of_change : Option ℕ → Bank → Place → ℕ → List Line
lines_of_change (Some b) bank p byte = lines_for bank (bank_of (reg_of p)) ++ Bit (bit b (bits byte)) p b ∷ []
lines_of_change None bank p byte = lines_to_write bank p byte

abbrev pub lines_to_change : Bank → Place → (changing byte : ℕ) → List Line
lines_to_change bank p changing byte = if is_zero (bits changing) then [] else lines_of_change (only_bit changing) bank p byte

abbrev pub bank_changed : Bank → Place → (changing : ℕ) → Bank
bank_changed bank p changing = if is_zero (bits changing) then bank else moved bank (bank_of (reg_of p))

-- The next line is skipped where a bit of a register is clear.
abbrev pub lines_to_skip : Bank → Place → ℕ → List Line
lines_to_skip bank p b = lines_for bank (bank_of (reg_of p)) ++ Skip false p b ∷ []

-- The bank of a source's flag, and the clearing of that flag.
abbrev pub bank_of_flag : Source → Option ℕ
bank_of_flag source = bank_of (reg_at (flag_of source).address)

abbrev pub lines_to_lower : Bank → Source → List Line
lines_to_lower bank source = lines_for bank (bank_of_flag source) ++ Lower source ∷ []

-- A stretch with these lines added, and with this bank known behind it.
pub record Adds (old : Stretch) (added : List Line) (behind : Bank) (new : Stretch) : Type 0 where
  pub lines : new.lines.items ≡ old.lines.items ++ added
  pub bank : new.bank ≡ behind
