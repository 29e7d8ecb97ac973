-- What a step of glue may change.
use Rattle.std.specs.Prelude.{◌≡◌, ℕ, Bool, true, false, nat_le, ◌==◌, ◌&&◌, ◌⊎◌, Option, Some, None, IfSome, List, [], ◌∷◌}
use Rattle.pic_regs.specs.declared.places.Place.TheVariants as place
use Rattle.pic_regs.specs.Bytes.{Byte}
use Rattle.pic_regs.specs.Map.{Reg, Fsr, Port, Status, lowest}
use Rattle.pic_regs.specs.Places.{reg_of}
use Rattle.pic_regs.specs.Registers.{Registers, held}
use Rattle.pic_machine.specs.Chip.{Chip}
use Rattle.pic_machine.specs.Results.{Done}
use Rattle.code_steps.specs.Steps.{next}
use Rattle.glue_steps.specs.declared.lines.Line.{Line}
use Rattle.glue_steps.specs.declared.lines.Line.TheVariants.{Store, Clear, Bit, Lower}
use Rattle.glue_steps.specs.Lines.{takes_byte}

-- The chip `d` with what glue works with as in `e`: the program counter, W, STATUS but for its bits 4 and 3, PCLATH, the enables,
-- the latches and TRIS of ports, and plain bytes. GIE, RBIE, all flags, FSR, pins, the return stack, and whether an interrupt is
-- due are those of `d`.
abbrev pub with_glue_of : Chip → Chip → Chip
with_glue_of e d = record d {
  w = e.w;
  pc = e.pc;
  regs = record d.regs {
    status = record e.regs.status { b4 = d.regs.status.b4; b3 = d.regs.status.b3 };
    pclath = e.regs.pclath;
    intcon = record d.regs.intcon { b6 = e.regs.intcon.b6; b5 = e.regs.intcon.b5; b4 = e.regs.intcon.b4 };
    pie1 = e.regs.pie1;
    pie2 = e.regs.pie2;
    latch = e.regs.latch;
    tris = e.regs.tris;
    plain = e.regs.plain;
  };
}

-- The byte that is a register's own: a port's is its latch.
abbrev pub own_byte : Reg → Registers → Byte
own_byte (Port n) r = r.latch n
own_byte reg r = held reg r

-- A register may be written: it is STATUS, or May has its lowest address.
abbrev pub MayWrite : (May : ℕ → Type 0) → Reg → Type 0
MayWrite May Status = Unit {0}
MayWrite May reg = IfSome (lowest reg) May

-- GIE is clear.
abbrev pub Off : Chip → Type 0
Off c = c.regs.intcon.b7 ≡ false

-- A step of glue: it runs at a place with In, with GIE clear, and isn't RETFIE, whose word is 0009h. It changes W, the bank bits,
-- IRP, Z, DC and C, and else only registers whose lowest addresses May has; GIE, RBIE and all flags stay.
pub record Still (program : ℕ → ℕ) (In : ℕ → Type 0) (May : ℕ → Type 0) (d : Chip) (done : Done) : Type 0 where
  pub inside : In d.pc
  pub off : Off d
  pub no_return : (program d.pc == 0x0009) ≡ false
  pub kept : done.chip ≡ with_glue_of done.chip d
  pub changes : (reg : Reg) → (own_byte reg done.chip.regs ≡ own_byte reg d.regs) ⊎ MayWrite May reg
  pub wrote : IfSome done.wrote (λ address. (address ≡ 0x003) ⊎ May address)

-- A register that lines of glue may write: it is steady or a port, and not FSR.
abbrev pub is_glue_reg : Reg → Bool
is_glue_reg Fsr = false
is_glue_reg reg = takes_byte reg

-- The step of a line of glue is such a step: it writes no FSR, clears no flag, and of INTCON changes enables alone.
abbrev pub is_still : Line → Bool
is_still (Store p) = is_glue_reg (reg_of p)
is_still (Clear p) = is_glue_reg (reg_of p)
is_still (Bit v place.Intcon b) = nat_le 4 b && nat_le b 6
is_still (Bit v p b) = is_glue_reg (reg_of p)
is_still (Lower source) = false
is_still _ = true

-- The register that a line writes, but for the flag that it clears.
abbrev pub target_of : Line → Option Reg
target_of (Store p) = Some (reg_of p)
target_of (Clear p) = Some (reg_of p)
target_of (Bit v p b) = Some (reg_of p)
target_of _ = None

-- Lines from a place on lie at places with In, are such steps, and write what they may.
abbrev pub StillAll : (In May : ℕ → Type 0) → ℕ → List Line → Type 0
StillAll In May p [] = Unit {0}
StillAll In May p (line ∷ lines) =
    (is_still line ≡ true) × In p × IfSome (target_of line) (MayWrite May) × StillAll In May (next p) lines

-- The places of lines alone; and what they do and write alone.
abbrev pub PlacesIn : (In : ℕ → Type 0) → ℕ → List Line → Type 0
PlacesIn In p [] = Unit {0}
PlacesIn In p (line ∷ lines) = In p × PlacesIn In (next p) lines

abbrev pub StillLines : (May : ℕ → Type 0) → List Line → Type 0
StillLines May [] = Unit {0}
StillLines May (line ∷ lines) = (is_still line ≡ true) × IfSome (target_of line) (MayWrite May) × StillLines May lines
