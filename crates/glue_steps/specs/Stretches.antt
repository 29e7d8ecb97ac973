-- Lines one after another: what they leave, what they put, the bank, and which of them are reached in it.
use Rattle.std.specs.Prelude.{◌≡◌, ℕ, ◌+◌, ◌*◌, Bool, true, false, not, ◌==◌, ◌&&◌, ◌||◌, if◌then◌else◌, Option, Some, None, List, [], ◌∷◌}
use Rattle.std.specs.List.{cons_option}
use Rattle.pic_isa.specs.Sources.{flag_of}
use Rattle.pic_regs.specs.declared.places.Place.TheVariants as place
use Rattle.pic_regs.specs.Bytes.{one_if, Byte}
use Rattle.pic_regs.specs.Map.{Reg, reg_at, reg_in}
use Rattle.pic_regs.specs.Places.{reg_of}
use Rattle.pic_machine.specs.declared.steps.PortWrite.{PortWrite}
use Rattle.pic_machine.specs.Chip.{Chip}
use Rattle.pic_machine.specs.Results.{Done}
use Rattle.code_steps.specs.declared.banks.Bank.{Bank}
use Rattle.code_steps.specs.Steps.{next, Is}
use Rattle.code_acts.specs.Codes.{low_bit, high_bit}
use Rattle.glue_steps.specs.declared.lines.Line.{Line}
use Rattle.glue_steps.specs.declared.lines.Line.TheVariants.{Load, Store, Clear, Bit, Lower, Skip}
use Rattle.glue_steps.specs.Lines.{field_of, instr_of, skips, did, ran, is_glue}

-- The chip after lines, the first of which is skipped where `skipped` holds: then the chip is behind it already.
abbrev pub ran_all : (skipped : Bool) → List Line → Chip → Chip
ran_all skipped [] c = c
ran_all true (line ∷ lines) c = ran_all false lines c
ran_all false (line ∷ lines) c = ran_all (skips line c) lines (ran line c)

-- What they put on ports, before what is put later.
abbrev pub puts_of : (skipped : Bool) → List Line → Chip → (later : List PortWrite) → List PortWrite
puts_of skipped [] c later = later
puts_of true (line ∷ lines) c later = puts_of false lines c later
puts_of false (line ∷ lines) c later = cons_option (did line c).port (puts_of (skips line c) lines (ran line c) later)

-- What is known of the bank bits: RP1 and RP0.
pub record BankBits : Type 0 where
  pub high : Option Bool
  pub low : Option Bool

abbrev pub bits_of_bank : Bank → BankBits
bits_of_bank bank = record { high = high_bit bank; low = low_bit bank }

-- A bit is what is known of it; so are the bank bits of a chip.
abbrev pub IsKnown : Option Bool → Bool → Type 0
IsKnown None b = Unit {0}
IsKnown (Some known) b = b ≡ known

abbrev pub Banked : BankBits → Chip → Type 0
Banked known c = IsKnown known.high c.regs.status.b6 × IsKnown known.low c.regs.status.b5

-- A line may skip the next one.
abbrev pub may_skip : Line → Bool
may_skip (Skip v p b) = true
may_skip _ = false

-- A line may change the bank; and what is known of the bank behind it.
abbrev pub moves_bank : Line → Bool
moves_bank (Store place.Status) = true
moves_bank (Clear place.Status) = true
moves_bank (Bit v place.Status b) = b == 5 || b == 6
moves_bank _ = false

abbrev pub bank_behind : Line → BankBits → BankBits
bank_behind (Store place.Status) known = record { high = None; low = None }
bank_behind (Clear place.Status) known = record { high = Some false; low = Some false }
bank_behind (Bit v place.Status b) known = if b == 5 then record known { low = Some v } else if b == 6 then record known { high = Some v } else known
bank_behind _ known = known

abbrev pub bank_behind_all : List Line → BankBits → BankBits
bank_behind_all [] known = known
bank_behind_all (line ∷ lines) known = bank_behind_all lines (bank_behind line known)

-- The register that a line names.
abbrev pub register_of : Line → Option Reg
register_of (Load p) = Some (reg_of p)
register_of (Store p) = Some (reg_of p)
register_of (Clear p) = Some (reg_of p)
register_of (Bit v p b) = Some (reg_of p)
register_of (Skip v p b) = Some (reg_of p)
register_of (Lower source) = Some (reg_at (flag_of source).address)
register_of _ = None

-- It is named in the bank that is known, or in every bank.
abbrev pub NamedIn : (high low : Option Bool) → Reg → Type 0
NamedIn (Some high) (Some low) reg = reg_in (2 * one_if high + one_if low) (field_of reg) ≡ reg
NamedIn _ _ reg = (bank : ℕ) → reg_in bank (field_of reg) ≡ reg

abbrev pub Reached : BankBits → Option Reg → Type 0
Reached known None = Unit {0}
Reached known (Some reg) = NamedIn known.high known.low reg

-- Lines are glue that reaches its registers, in a bank of which this is known; none behind a skip changes the bank, and the last
-- one is no skip. `behind` says that a skip stands directly before the first.
abbrev pub Fits : (behind : Bool) → BankBits → List Line → Type 0
Fits behind known [] = behind ≡ false
Fits behind known (line ∷ lines) =
    ((is_glue line && not (behind && moves_bank line)) ≡ true) × Reached known (register_of line) × Fits (may_skip line) (bank_behind line known) lines

-- The step of a line that stands at a place is one with G on each chip there; and so for lines from a place on.
abbrev pub Grants : (program : ℕ → ℕ) (G : Chip → Done → Type 0) → ℕ → Line → Type 0
Grants program G p line = (d : Chip) → d.pc ≡ p → Is program p (instr_of line) → G d (did line d)

abbrev pub GrantsAll : (program : ℕ → ℕ) (G : Chip → Done → Type 0) → ℕ → List Line → Type 0
GrantsAll program G p [] = Unit {0}
GrantsAll program G p (line ∷ lines) = Grants program G p line × GrantsAll program G (next p) lines

-- The place behind lines that stand from a place on.
abbrev pub place_behind : ℕ → List Line → ℕ
place_behind p [] = p
place_behind p (line ∷ lines) = place_behind (next p) lines

-- A byte has INTCON's bits, but for the flags at 2 and 1.
abbrev pub HasEnables : (x intcon : Byte) → Type 0
HasEnables x intcon = x ≡ record intcon { b2 = x.b2; b1 = x.b1 }
