-- What glue does in whatever bank: the lines of each deed, the bank behind them, and what they leave.
use Rattle.std.specs.Prelude.{◌≡◌, ℕ, Bool, true, if◌then◌else◌, Option, Some, None, List, [], ◌∷◌, ◌++◌}
use Rattle.pic_isa.specs.declared.sources.Source.{Source}
use Rattle.pic_regs.specs.declared.places.Place.{Place}
use Rattle.pic_regs.specs.declared.places.Place.TheVariants as place
use Rattle.pic_regs.specs.Bytes.{bits, bit}
use Rattle.pic_regs.specs.Map.{Intcon, Status}
use Rattle.pic_regs.specs.Places.{IsPlace, reg_of}
use Rattle.pic_regs.specs.Registers.{read}
use Rattle.code_steps.specs.declared.banks.Bank.{Bank}
use Rattle.code_steps.specs.declared.banks.Bank.TheVariants.{Known}
use Rattle.code_acts.specs.Codes.{moved}
use Rattle.glue_steps.specs.declared.lines.Line.{Line}
use Rattle.glue_steps.specs.declared.lines.Line.TheVariants.{Bit, Nothing}
use Rattle.glue_steps.specs.Lines.{is_steady}
use Rattle.glue_parts.specs.declared.stretches.Stretch.{Stretch}
use Rattle.glue_parts.specs.Places.{bank_of, IsNumbered, may_be_written, may_be_changed, may_be_read, is_status}
use Rattle.glue_parts.specs.Pieces.{Adds, bank_changed, bank_copied, bank_of_flag, lines_to_change, lines_to_choose, lines_to_copy, lines_to_lower, lines_to_skip, lines_to_write}
use Rattle.glue_parts.specs.Effects.{Effect, none, after, byte_written, copied, bit_made, flag_cleared, changed_to}

-- A deed: nothing, in one step; a bit of a register that is in each bank is made what is given; a bank is chosen; a register is
-- copied to another; it is made a byte; it is made a byte from which it differs at most in the bits that change; a source's flag
-- is cleared; or a bit of INTCON is set where that bit is set in a byte.
pub data Deed : Type 0 where
  Pause : Deed
  Make : Bool → Place → ℕ → Deed
  Choose : ℕ → Deed
  Copy : (from to : Place) → Deed
  Write : Place → ℕ → Deed
  Change : Place → (changing byte : ℕ) → Deed
  LowerFlag : Source → Deed
  SetIf : Place → ℕ → Deed

-- Its lines, where this is known of the bank, and the bank behind them.
abbrev pub lines_of : Bank → Deed → List Line
lines_of bank Pause = Nothing ∷ []
lines_of bank (Make v p b) = Bit v p b ∷ []
lines_of bank (Choose k) = lines_to_choose bank k
lines_of bank (Copy from to) = lines_to_copy bank from to
lines_of bank (Write p byte) = lines_to_write bank p byte
lines_of bank (Change p changing byte) = lines_to_change bank p changing byte
lines_of bank (LowerFlag source) = lines_to_lower bank source
lines_of bank (SetIf p b) = lines_to_skip bank p b ++ Bit true place.Intcon b ∷ []

abbrev pub bank_behind : Bank → Deed → Bank
bank_behind bank Pause = bank
bank_behind bank (Make v p b) = bank
bank_behind bank (Choose k) = Known k
bank_behind bank (Copy from to) = bank_copied bank from to
bank_behind bank (Write p byte) = moved bank (bank_of (reg_of p))
bank_behind bank (Change p changing byte) = bank_changed bank p changing
bank_behind bank (LowerFlag source) = moved bank (bank_of_flag source)
bank_behind bank (SetIf p b) = moved bank (bank_of (reg_of p))

-- The lines of deeds one after another, and the bank behind them.
abbrev pub lines_in : Bank → List Deed → List Line
lines_in bank [] = []
lines_in bank (deed ∷ deeds) = lines_of bank deed ++ lines_in (bank_behind bank deed) deeds

abbrev pub bank_past : Bank → List Deed → Bank
bank_past bank [] = bank
bank_past bank (deed ∷ deeds) = bank_past (bank_behind bank deed) deeds

-- A stretch with the lines of deeds added, in its bank.
abbrev pub DoesMore : (old : Stretch) → List Deed → (new : Stretch) → Type 0
DoesMore old deeds new = Adds old (lines_in old.bank deeds) (bank_past old.bank deeds) new

-- A stretch of these deeds' lines alone, begun in this bank.
pub record IsStretch (bank : Bank) (deeds : List Deed) (stretch : Stretch) : Type 0 where
  pub lines : stretch.lines.items ≡ lines_in bank deeds
  pub behind : stretch.bank ≡ bank_past bank deeds

-- The number of a deed's port is below 5, its address below 512.
abbrev pub DeedNamed : Deed → Type 0
DeedNamed (Make v p b) = IsPlace p
DeedNamed (Copy from to) = IsPlace from × IsPlace to
DeedNamed (Write p byte) = IsPlace p
DeedNamed (Change p changing byte) = IsPlace p
DeedNamed (SetIf p b) = IsPlace p
DeedNamed _ = Unit {0}
