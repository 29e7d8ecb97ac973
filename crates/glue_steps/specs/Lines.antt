-- Lines of glue: the instruction of each, what it leaves, and which lines depend on no flag and no pin.
use Rattle.std.specs.Prelude.{ℕ, ◌%◌, ◌<◌, Bool, true, false, not, nat_le, Some, None}
use Rattle.pic_isa.specs.declared.instructions.Dest.TheVariants.{W}
use Rattle.pic_isa.specs.declared.instructions.Instr.{Instr}
use Rattle.pic_isa.specs.declared.instructions.Instr.TheVariants.{Bcf, Bsf, Clrf, Movf, Movlw, Movwf, Nop}
use Rattle.pic_isa.specs.declared.sources.Source.{Source}
use Rattle.pic_isa.specs.Sources.{flag_of}
use Rattle.pic_regs.specs.Bytes.{Byte, bits, bit, with_bit, zeros, is_zero}
use Rattle.pic_regs.specs.Map.{Reg, Intcon, Fsr, Pclath, Pie1, Pie2, Plain, Port, Status, Tris, lowest, reg_at}
use Rattle.pic_regs.specs.Places.{IsPlace, reg_of}
use Rattle.pic_regs.specs.Registers.{Registers, read, changed}
use Rattle.pic_regs.specs.Single.{only}
use Rattle.pic_machine.specs.Chip.{Chip, advanced, skipping}
use Rattle.pic_machine.specs.Results.{Done, Outcome, Zero, just, tested, flagged, stored, written, shown}
use Rattle.code_items.specs.declared.items.Item.{Item}
use Rattle.code_items.specs.declared.items.Item.TheVariants.{Ins}
use Rattle.code_acts.specs.Acts.{agrees}
use Rattle.code_acts.specs.Codes.{skip_instr}
use Rattle.glue_steps.specs.declared.lines.Line.{Line}
use Rattle.glue_steps.specs.declared.lines.Line.TheVariants.{Constant, Load, Store, Clear, Bit, Lower, Skip, Nothing}

-- The seven bits by which an instruction names a register: the low ones of its lowest address; 0 where there is no register.
abbrev pub field_of : Reg → ℕ
field_of reg = elim (lowest reg) [ Some address ↦ address % 128 | None ↦ 0 ]

-- The instruction that makes a bit of a register what is given.
abbrev pub bit_instr : Bool → (f : ℕ) → ℕ → Instr
bit_instr true f b = Bsf f b
bit_instr false f b = Bcf f b

-- A line's instruction, and the line as an item.
abbrev pub instr_of : Line → Instr
instr_of (Constant k) = Movlw k
instr_of (Load p) = Movf (field_of (reg_of p)) W
instr_of (Store p) = Movwf (field_of (reg_of p))
instr_of (Clear p) = Clrf (field_of (reg_of p))
instr_of (Bit v p b) = bit_instr v (field_of (reg_of p)) b
instr_of (Lower source) = Bcf (flag_of source).address (flag_of source).bit
instr_of (Skip v p b) = skip_instr v (field_of (reg_of p)) b
instr_of Nothing = Nop

abbrev pub item_of : Line → Item
item_of line = Ins (instr_of line)

-- The number of a line's port is below 5, its address below 512.
abbrev pub LineNamed : Line → Type 0
LineNamed (Load p) = IsPlace p
LineNamed (Store p) = IsPlace p
LineNamed (Clear p) = IsPlace p
LineNamed (Bit v p b) = IsPlace p
LineNamed (Skip v p b) = IsPlace p
LineNamed _ = Unit {0}

-- Its constant is below 256, its bit below 8.
abbrev pub LineFits : Line → Type 0
LineFits (Constant k) = (k < 256)
LineFits (Bit v p b) = (b < 8)
LineFits (Skip v p b) = (b < 8)
LineFits _ = Unit {0}

-- A step that writes no register but W and flags; and one whose result goes to a register.
abbrev pub quiet : Chip → Done
quiet c = record { chip = c; wrote = None; port = None }

abbrev pub stores : Reg → Outcome → Chip → Done
stores reg result c = record { chip = stored reg result c; wrote = written reg; port = shown reg result.byte }

-- The chip with a byte in W, and whether it is 0 in Z.
abbrev pub loaded : Byte → Chip → Chip
loaded x c = record c { w = x; regs = flagged (Zero (is_zero x)) c.regs }

-- The registers with a source's flag cleared.
abbrev pub lowered : Source → Registers → Registers
lowered source r = changed (reg_at (flag_of source).address) (with_bit (flag_of source).bit false) r

-- A line skips the next one.
abbrev pub skips : Line → Chip → Bool
skips (Skip v p b) c = agrees v (bit b (read (reg_of p) c.regs))
skips _ c = false

-- The own step of a line; and the chip after it.
abbrev pub did : Line → Chip → Done
did (Constant k) c = quiet (record (advanced c) { w = bits k })
did (Load p) c = quiet (loaded (read (reg_of p) c.regs) (advanced c))
did (Store p) c = stores (reg_of p) (just c.w) (advanced c)
did (Clear p) c = stores (reg_of p) (tested zeros) (advanced c)
did (Bit v p b) c = stores (reg_of p) (just (with_bit b v (read (reg_of p) c.regs))) (advanced c)
did (Lower source) c = record { chip = record (advanced c) { regs = lowered source c.regs }; wrote = Some (flag_of source).address; port = None }
did (Skip v p b) c = quiet (skipping (skips (Skip v p b) c) (advanced c))
did Nothing c = quiet (advanced c)

abbrev pub ran : Line → Chip → Chip
ran line c = (did line c).chip

-- What a register holds depends on no flag and no pin, and a write of it leaves all flags.
abbrev pub is_steady : Reg → Bool
is_steady Status = true
is_steady Fsr = true
is_steady Pclath = true
is_steady Pie1 = true
is_steady Pie2 = true
is_steady (Tris n) = true
is_steady (Plain address) = true
is_steady _ = false

-- It may be written whole: it is steady or a port.
abbrev pub takes_byte : Reg → Bool
takes_byte (Port n) = true
takes_byte reg = is_steady reg

-- A bit of it may be made what is given, and be tested: it is steady, or this is GIE or an enable in INTCON.
abbrev pub takes_bit : Reg → ℕ → Bool
takes_bit Intcon b = nat_le 3 b
takes_bit reg b = is_steady reg

-- What a line leaves depends on no flag and no pin, and it clears no flag but by BCF of that flag alone.
abbrev pub is_glue : Line → Bool
is_glue (Load p) = is_steady (reg_of p)
is_glue (Store p) = takes_byte (reg_of p)
is_glue (Clear p) = takes_byte (reg_of p)
is_glue (Bit v p b) = takes_bit (reg_of p) b
is_glue (Skip v p b) = takes_bit (reg_of p) b
is_glue _ = true

-- A line leaves a source's flag: all but the one that it is told to clear.
abbrev pub keeps_flag : Line → Source → Bool
keeps_flag (Lower source) other = not (only source other)
keeps_flag _ other = true
