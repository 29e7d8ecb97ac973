-- What pieces of glue leave: the change of the registers, and the bytes that they put on ports.
use Rattle.std.specs.Prelude.{◌≡◌, ℕ, Bool, true, false, ◌==◌, ◌&&◌, if◌then◌else◌, Option, Some, None, List, [], ◌∷◌, ◌++◌}
use Rattle.std.specs.List.{cons_option}
use Rattle.pic_isa.specs.declared.sources.Source.{Source}
use Rattle.pic_regs.specs.declared.places.Place.{Place}
use Rattle.pic_regs.specs.Bytes.{Byte, bits, bit, with_bit, is_zero}
use Rattle.pic_regs.specs.Map.{Reg}
use Rattle.pic_regs.specs.Places.{reg_of}
use Rattle.pic_regs.specs.Registers.{Registers, read, write}
use Rattle.pic_machine.specs.declared.steps.PortWrite.{PortWrite}
use Rattle.pic_machine.specs.Chip.{Chip}
use Rattle.pic_machine.specs.Results.{shown}
use Rattle.glue_steps.specs.declared.lines.Line.{Line}
use Rattle.glue_steps.specs.Lines.{lowered}
use Rattle.glue_steps.specs.Stretches.{BankBits, Fits, bank_behind_all, ran_all, puts_of}
use Rattle.glue_parts.specs.Pieces.{only_bit}

-- The change of the registers, and the bytes put on ports on the way.
pub record Effect : Type 0 where
  pub change : Registers → Registers
  pub puts : Registers → List PortWrite

-- None; and one effect after another.
abbrev pub none : Effect
none = record { change = λ r. r; puts = λ r. [] }

abbrev pub after : Effect → Effect → Effect
after first second = record { change = λ r. second.change (first.change r); puts = λ r. first.puts r ++ second.puts (first.change r) }

-- A register is made a byte; a copy of another; a bit of it is made what is given; a source's flag is cleared.
abbrev pub byte_written : Reg → Byte → Effect
byte_written reg x = record { change = write reg x; puts = λ r. cons_option (shown reg x) [] }

abbrev pub copied : (from to : Reg) → Effect
copied from to = record { change = λ r. write to (read from r) r; puts = λ r. cons_option (shown to (read from r)) [] }

abbrev pub bit_made : Reg → ℕ → Bool → Effect
bit_made reg b v = record { change = λ r. write reg (with_bit b v (read reg r)) r; puts = λ r. cons_option (shown reg (with_bit b v (read reg r))) [] }

abbrev pub flag_cleared : Source → Effect
flag_cleared source = record { change = lowered source; puts = λ r. [] }

-- A change to a byte: the bit that alone changes, or the whole byte.
abbrev pub change_made : Option ℕ → Reg → ℕ → Effect
change_made (Some b) reg byte = bit_made reg b (bit b (bits byte))
change_made None reg byte = byte_written reg (bits byte)

abbrev pub changed_to : Reg → (changing byte : ℕ) → Effect
changed_to reg changing byte = if is_zero (bits changing) then none else change_made (only_bit changing) reg byte

-- It depends on no bit of STATUS, and leaves STATUS as it is.
pub record Blind (e : Effect) : Type 0 where
  pub change : (r : Registers) (status : Byte) → e.change (record r { status = status }) ≡ record (e.change r) { status = status }
  pub puts : (r : Registers) (status : Byte) → e.puts (record r { status = status }) ≡ e.puts r

-- The chip `c` with these registers, and with W, the program counter and STATUS of `d`, but for STATUS' bits TO and PD.
abbrev pub left : Registers → (d c : Chip) → Chip
left r d c = record c { w = d.w; pc = d.pc; regs = record r { status = record d.regs.status { b4 = r.status.b4; b3 = r.status.b3 } } }

-- Lines that fit where this is known of the bank, with that known behind them, have this effect, and else change W, the program
-- counter, and STATUS but for TO and PD.
pub record Makes (known behind : BankBits) (e : Effect) (lines : List Line) : Type 0 where
  pub fits : Fits false known lines
  pub banked : bank_behind_all lines known ≡ behind
  pub leaves : (c : Chip) → ran_all false lines c ≡ left (e.change c.regs) (ran_all false lines c) c
  pub puts : (c : Chip) (later : List PortWrite) → puts_of false lines c later ≡ e.puts c.regs ++ later
