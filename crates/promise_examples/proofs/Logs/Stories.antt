-- Logs told step by step, for the examples: chips and steps by the few parts of which the promises speak, a program and its map.
use Rattle.std.specs.Prelude.{ℕ, zero, suc, Bool, true, false, List, [], ◌∷◌, codes, Option, Some, None, if◌then◌else◌, ◌==◌}
use Rattle.frp_tree.specs.declared.syntax.Ty.TheVariants.{U8}
use Rattle.frp_tree.specs.declared.syntax.Lit.TheVariants as lit
use Rattle.frp_tree.specs.Tree.{ProgramTree, Name}
use Rattle.efrp_meaning.proofs.Examples.Programs.{setup, event, reactive, clause, output, one_more, tick, low}
use Rattle.pic_isa.specs.declared.sources.Source.TheVariants.{T0, Int}
use Rattle.pic_regs.specs.Bytes.{Byte, zeros, bits}
use Rattle.pic_regs.specs.Registers.{Registers}
use Rattle.pic_regs.specs.Arrivals.{Sources, no_source, set_of}
use Rattle.pic_machine.specs.declared.steps.Did.{Did}
use Rattle.pic_machine.specs.declared.steps.Did.TheVariants.{Took, Ran}
use Rattle.pic_machine.specs.declared.steps.PortWrite.{PortWrite}
use Rattle.pic_machine.specs.Chip.{Chip}
use Rattle.pic_machine.specs.Boundary.{Step}
use Rattle.pic_machine.specs.Run.{Log}
use Rattle.map_file.specs.declared.maps.MapEvent.{MapEvent}
use Rattle.map_file.specs.declared.maps.Map.{Map}

-- INTCON with GIE, INT's enable and INT's flag.
abbrev pub intcon_of : Bool → Bool → Bool → Byte
intcon_of gie its_enable its_flag = record zeros { b7 = gie; b4 = its_enable; b1 = its_flag }

abbrev pub registers_of : Byte → ℕ → Registers
registers_of its_intcon value = record {
  status = zeros;
  fsr = zeros;
  pclath = zeros;
  intcon = its_intcon;
  pir1 = zeros;
  pir2 = zeros;
  pie1 = zeros;
  pie2 = zeros;
  latch = λ port. zeros;
  tris = λ port. zeros;
  pins = λ port. zeros;
  plain = λ address. if address == 0x020 then bits value else zeros;
}

abbrev pub chip_of : ℕ → Byte → ℕ → Chip
chip_of address its_intcon value = record { w = zeros; pc = address; regs = registers_of its_intcon value; stack = λ place. 0; top = 0; depth = 0; due = false }

-- A chip by its program counter, GIE, the flag of INT and the byte at 020h. The enable of INT is on, and all else is 0.
abbrev pub chip : ℕ → Bool → Bool → ℕ → Chip
chip address gie its_flag value = chip_of address (intcon_of gie true its_flag) value

-- A step by the chip before it, after its arrivals and after it, what was latched, what it did and what it put on a port.
abbrev pub step : Chip → Chip → Chip → Sources → Did → Option PortWrite → Step
step from there to those what put =
    record { before = from; arrived = there; after = to; latched = those; merged = no_source; did = what; wrote = None; port = put }

-- An instruction ran, with no arrival; one put a byte on PORTB; one on another port.
abbrev pub ran : Chip → Chip → Step
ran from to = step from from to no_source (Ran from.pc 0) None

abbrev pub put_at : ℕ → ℕ → Chip → Chip → Step
put_at its_port its_byte from to = step from from to no_source (Ran from.pc 0) (Some (record { port = its_port; byte = its_byte }))

abbrev pub put : ℕ → Chip → Chip → Step
put its_byte from to = put_at 1 its_byte from to

-- INT alone.
abbrev pub int_alone : Sources
int_alone = set_of 2

-- INT was latched and taken; it was latched, and an instruction ran.
abbrev pub took : Chip → Chip → Chip → Step
took from there to = step from there to int_alone Took None

abbrev pub met : Chip → Chip → Chip → Step
met from there to = step from there to int_alone (Ran from.pc 0) None

-- A log by its first steps and a step that is then repeated for good.
abbrev pub told : List Step → Step → Log
told [] rest n = rest
told (s ∷ ss) rest zero = s
told (s ∷ ss) rest (suc n) = told ss rest n

-- A program of one counter. Its setups put 7 on PORTB, and each Tick puts the new count there.
abbrev pub counting : ProgramTree
counting = record {
  events = event tick (codes "INT") 1 ∷ [];
  setups = setup (codes "PORTB") 7 ∷ setup (codes "TRISB") 0 ∷ [];
  decls = reactive (codes "n") U8 (lit.Plain 0) (clause tick (one_more (codes "n")) ∷ []) ∷ [];
  outputs = output (codes "PORTB") (Name (codes "n")) ∷ [];
}

abbrev pub tick_event : MapEvent
tick_event = record { name = tick; source = Int; priority = 1; «open» = 20; commit = 21 }

-- Its map: ready at 8, open at 20, commit at 21.
abbrev pub counting_map : Map
counting_map = record {
  events = tick_event ∷ [];
  states = record { name = codes "n"; ty = U8; low = 0x020; high = 0x020 } ∷ [];
  outputs = 1 ∷ [];
  samples = [];
  ready = 8;
  regs = record { from = 0x020; to = 0x020 } ∷ [];
  depth = 1;
  ram = 1;
  words = 23;
  settle = 100;
}

-- A map of two events: Tick, of priority 2, and Low on T0, of priority 1, which opens at 30 and commits at 31.
abbrev pub low_event : MapEvent
low_event = record { name = low; source = T0; priority = 1; «open» = 30; commit = 31 }

abbrev pub two_events : Map
two_events = record counting_map { events = record tick_event { priority = 2 } ∷ low_event ∷ [] }
