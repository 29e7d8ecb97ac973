-- A boundary of the chip: what comes from outside, what is taken or run there, and the step that this makes.
use Rattle.std.specs.Prelude.{ℕ, Bool, true, false, ◌||◌, Option, Some, None}
use Rattle.pic_isa.specs.declared.instructions.Instr.{Instr}
use Rattle.pic_isa.specs.Instructions.{instruction_of}
use Rattle.pic_regs.specs.Bytes.{Byte}
use Rattle.pic_regs.specs.Registers.{requested}
use Rattle.pic_regs.specs.Arrivals.{Sources, no_source, number_of, latched, merged, arrived}
use Rattle.pic_machine.specs.declared.steps.Did.{Did}
use Rattle.pic_machine.specs.declared.steps.Did.TheVariants.{Took, Ran, Stopped}
use Rattle.pic_machine.specs.declared.steps.Why.{Why}
use Rattle.pic_machine.specs.declared.steps.Why.TheVariants as why
use Rattle.pic_machine.specs.declared.steps.PortWrite.{PortWrite}
use Rattle.pic_machine.specs.declared.steps.Stepped.{Stepped}
use Rattle.pic_machine.specs.Chip.{Chip, pushed, with_gie}
use Rattle.pic_machine.specs.Results.{Done}
use Rattle.pic_machine.specs.Exec.{exec}

-- What comes from outside at a boundary: the sources that arrive, the pins that change, by port, and whether a requested
-- interrupt is late.
pub record Outer : Type 0 where
  pub arrivals : Sources
  pub pins : ℕ → Option Byte
  pub late : Bool

-- No pin changes.
abbrev pub no_pins : ℕ → Option Byte
no_pins port = None

-- Nothing arrives, no pin changes, and nothing is late.
abbrev pub no_outer : Outer
no_outer = record { arrivals = no_source; pins = no_pins; late = false }

-- The chip with the pins that change.
abbrev pub with_changed_pins : (ℕ → Option Byte) → Chip → Chip
with_changed_pins pins c = record c { regs = record c.regs { pins = λ port. elim (pins port) [ Some byte ↦ byte | None ↦ c.regs.pins port ] } }

-- The chip with the flags of arriving sources set.
abbrev pub with_arrivals : Sources → Chip → Chip
with_arrivals arrivals c = record c { regs = arrived arrivals c.regs }

-- What a boundary does after its pins and arrivals: the chip that it leaves, and what it did, wrote and put on a port.
pub record Turn : Type 0 where
  pub after : Chip
  pub did : Did
  pub wrote : Option ℕ
  pub port : Option PortWrite

-- A taking: the address of the next instruction is pushed, GIE becomes 0, control goes to 0004h, and no interrupt is
-- due.
abbrev pub took : Chip → Turn
took c = record { after = with_gie false (record (pushed c.pc c) { pc = 0x0004; due = false }); did = Took; wrote = None; port = None }

-- A stop changes nothing.
abbrev pub stopped : Why → Chip → Turn
stopped cause c = record { after = c; did = Stopped c.pc cause; wrote = None; port = None }

-- The instruction at the program counter runs; SLEEP stops.
abbrev pub ended : ℕ → Chip → Option Done → Turn
ended word c (Some done) = record { after = done.chip; did = Ran c.pc word; wrote = done.wrote; port = done.port }
ended word c None = stopped why.Sleep c

abbrev pub ran : ℕ → Option Instr → Chip → Turn
ran word (Some i) c = ended word c (exec i c)
ran word None c = stopped why.UnknownWord c

-- A late taking: the instruction at the program counter runs, and then the interrupt is due. Where no instruction can
-- run, it is taken at once.
abbrev pub waited : ℕ → Chip → Option Done → Turn
waited word c (Some done) = record (ended word c (Some done)) { after = record done.chip { due = true } }
waited word c None = took c

abbrev pub delayed : ℕ → Option Instr → Chip → Turn
delayed word (Some i) c = waited word c (exec i c)
delayed word None c = took c

-- An interrupt that is due is taken. One that is requested is taken, or it is late. Otherwise the word at the program
-- counter runs.
abbrev pub turn : (due asked late : Bool) → ℕ → Chip → Turn
turn true asked late word c = took c
turn false true false word c = took c
turn false true true word c = delayed word (instruction_of word) c
turn false false late word c = ran word (instruction_of word) c

-- An interrupt may be taken here: one is due, or interrupts are on.
abbrev pub may_take : Chip → Bool
may_take c = c.due || c.regs.intcon.b7

-- A step of a log: the chip before its pins and arrivals, after them, and after the step; which arrivals were latched
-- and which merged; what the step did; the lowest address of the register that it wrote as its destination; and what
-- it put on a port.
pub record Step : Type 0 where
  pub before : Chip
  pub arrived : Chip
  pub after : Chip
  pub latched : Sources
  pub merged : Sources
  pub did : Did
  pub wrote : Option ℕ
  pub port : Option PortWrite

-- A step of the chip: the pins change, each arriving source is latched or merged, and then an interrupt is taken, or
-- else the word at the program counter runs.
abbrev pub boundary : (ℕ → ℕ) → Outer → Chip → Step
boundary program outer c =
    let pinned = with_changed_pins outer.pins c in
    let now = with_arrivals outer.arrivals pinned in
    let rest = turn now.due (requested now.regs) outer.late (program now.pc) now in
    record {
      before = c;
      arrived = now;
      after = rest.after;
      latched = latched outer.arrivals pinned.regs;
      merged = merged outer.arrivals pinned.regs;
      did = rest.did;
      wrote = rest.wrote;
      port = rest.port;
    }

-- A step as it is reported, with its sets as numbers.
abbrev pub stepped : Step → Stepped
stepped step = record {
  latched = number_of step.latched;
  merged = number_of step.merged;
  did = step.did;
  wrote = step.wrote;
  port = step.port;
}
