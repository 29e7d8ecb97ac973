-- What deeds leave.
use Rattle.std.specs.Prelude.{◌≡◌, ℕ, Bool, true, if◌then◌else◌, None, List, [], ◌∷◌, ◌||◌}
use Rattle.std.specs.List.{AllByRecursion}
use Rattle.pic_regs.specs.Bytes.{bit, bits, with_bit}
use Rattle.pic_regs.specs.Map.{Reg, Intcon, Status}
use Rattle.pic_regs.specs.Places.{reg_of}
use Rattle.pic_regs.specs.Registers.{read, write}
use Rattle.code_steps.specs.declared.banks.Bank.{Bank}
use Rattle.glue_steps.specs.Lines.{is_steady}
use Rattle.glue_steps.specs.Stretches.{bits_of_bank}
use Rattle.glue_parts.specs.Places.{bank_of, IsNumbered, is_status, may_be_changed, may_be_read, may_be_written}
use Rattle.glue_parts.specs.Effects.{Effect, Blind, Makes, after, bit_made, byte_written, changed_to, copied, flag_cleared, none}
use Rattle.scratch_commit.specs.Deeds.{Deed, Change, Choose, Copy, LowerFlag, Make, Pause, SetIf, Write, bank_past, lines_in}

-- A bit of INTCON is set where that bit is set in a register.
abbrev pub set_if : Reg → ℕ → Effect
set_if reg b = record { change = λ r. if bit b (read reg r) then write Intcon (with_bit b true (read Intcon r)) r else r; puts = λ r. [] }

-- A register is copied to another. What STATUS becomes is told apart.
abbrev pub copied_to : (from to : Reg) → Effect
copied_to from Status = none
copied_to from to = copied from to

-- What a deed leaves, and deeds one after another.
abbrev pub effect_of : Deed → Effect
effect_of Pause = none
effect_of (Make v p b) = bit_made (reg_of p) b v
effect_of (Choose k) = none
effect_of (Copy from to) = copied_to (reg_of from) (reg_of to)
effect_of (Write p byte) = byte_written (reg_of p) (bits byte)
effect_of (Change p changing byte) = changed_to (reg_of p) changing byte
effect_of (LowerFlag source) = flag_cleared source
effect_of (SetIf p b) = set_if (reg_of p) b

abbrev pub effect_in : List Deed → Effect
effect_in [] = none
effect_in (deed ∷ deeds) = after (effect_of deed) (effect_in deeds)

-- A deed is glue: its registers exist, what it reads depends on no flag and no pin, and what it writes may be written so.
abbrev pub DeedFits : Deed → Type 0
DeedFits (Make v p b) = IsNumbered (reg_of p) × (bank_of (reg_of p) ≡ None) × (may_be_changed (reg_of p) b ≡ true)
DeedFits (Copy from to) =
    IsNumbered (reg_of from) × IsNumbered (reg_of to) × (may_be_read (reg_of from) ≡ true) × ((may_be_written (reg_of to) || is_status (reg_of to)) ≡ true)
DeedFits (Write p byte) = IsNumbered (reg_of p) × (may_be_written (reg_of p) ≡ true)
DeedFits (Change p changing byte) = IsNumbered (reg_of p) × ((b : ℕ) → may_be_changed (reg_of p) b ≡ true) × (is_steady (reg_of p) ≡ true)
DeedFits (SetIf p b) = IsNumbered (reg_of p) × (may_be_read (reg_of p) ≡ true) × (may_be_changed Intcon b ≡ true)
DeedFits _ = Unit {0}
