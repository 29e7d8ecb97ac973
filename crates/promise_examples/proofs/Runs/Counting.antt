-- A counter of ticks: its program, its code, written by hand, its image and its map; and its runs, for the examples.
use Rattle.std.specs.Prelude.{ℕ, ◌+◌, ◌^◌, Bool, true, nat_le, List, [], ◌∷◌, ◌++◌, codes, length, replicate, Some, None}
use Rattle.frp_tree.specs.declared.syntax.Ty.TheVariants.{U8}
use Rattle.frp_tree.specs.declared.syntax.Lit.TheVariants as lit
use Rattle.frp_tree.specs.Tree.{Name, ProgramTree}
use Rattle.efrp_meaning.specs.Bounds.{settle_bound}
use Rattle.efrp_meaning.proofs.Examples.Programs.{event, setup, clause, reactive, output, one_more, tick}
use Rattle.pic_isa.specs.declared.instructions.Dest.TheVariants.{W}
use Rattle.pic_isa.specs.declared.instructions.Instr.{Instr}
use Rattle.pic_isa.specs.declared.instructions.Instr.TheVariants.{Addwf, Bcf, Bsf, Goto, Movlw, Movwf, Retfie}
use Rattle.pic_isa.specs.declared.bits.TheConstants.{RP0, T0IF, T0IE, GIE}
use Rattle.pic_isa.specs.declared.registers.TheConstants.{STATUS, PORTC, INTCON}
use Rattle.pic_isa.specs.declared.sources.Source.{Source}
use Rattle.pic_isa.specs.declared.sources.Source.TheVariants.{T0}
use Rattle.pic_isa.specs.Instructions.{word_of}
use Rattle.pic_isa.specs.Sources.{source_number}
use Rattle.pic_regs.specs.declared.starts.Start.{Start}
use Rattle.pic_regs.specs.Arrivals.{set_of}
use Rattle.pic_machine.specs.declared.steps.PortWrite.{PortWrite}
use Rattle.pic_machine.specs.Boundary.{Outer, Step, no_outer}
use Rattle.pic_machine.specs.Run.{Log, run}
use Rattle.hex_file.specs.declared.images.Word.{Word}
use Rattle.hex_file.specs.declared.images.Image.{Image}
use Rattle.map_file.specs.declared.maps.Range.{Range}
use Rattle.map_file.specs.declared.maps.MapEvent.{MapEvent}
use Rattle.map_file.specs.declared.maps.Map.{Map}
use Rattle.firmware_promises.specs.MapNames.{is_listed}
use Rattle.firmware_promises.specs.Counts.{chip_after}

-- Tick on T0, all of PORTC an output, and there the count of the ticks.
abbrev pub program : ProgramTree
program = record {
  events = event tick (codes "T0") 1 ∷ [];
  setups = setup (codes "TRISC") 0 ∷ [];
  decls = reactive (codes "count") U8 (lit.Plain 0) (clause tick (one_more (codes "count")) ∷ []) ∷ [];
  outputs = output (codes "PORTC") (Name (codes "count")) ∷ [];
}

abbrev state_byte : ℕ
state_byte = 0x20

-- The handler, from 0004h on: the flag is cleared, the state grows, the port shows it. It stores the state at its
-- open address, 7, and writes the port at its commit address, 8.
abbrev handler : List Instr
handler = Bcf INTCON T0IF ∷ Movlw 1 ∷ Addwf state_byte W ∷ Movwf state_byte ∷ Movwf PORTC ∷ Retfie ∷ []

-- The whole code from address 0 on. Boot: the state's first value, the setup (TRISC is at PORTC's place in bank 1), T0's enable,
-- and GIE last. It jumps over the handler, and ends at the ready address, 15, in a jump to itself.
abbrev code : List Instr
code =
    Movlw 0 ∷ Movwf state_byte ∷ Bsf STATUS RP0 ∷ Goto 10
    ∷ (handler ++ Movlw 0 ∷ Movwf PORTC ∷ Bcf STATUS RP0 ∷ Bsf INTCON T0IE ∷ Bsf INTCON GIE ∷ Goto 15 ∷ [])

-- Words at successive addresses.
abbrev words_from : ℕ → List Instr → List Word
words_from at [] = []
words_from at (i ∷ is) = record { address = at; word = word_of i } ∷ words_from (at + 1) is

-- The image: the code, and the configuration word (code protection, low-voltage programming, brown-out,
-- power-up timer and watchdog off, oscillator HS).
abbrev pub image : Image
image = record { words = words_from 0 code; config = Some 0x3F3A; aside = [] }

-- Its event in the map.
abbrev pub tick_event : MapEvent
tick_event = record { name = tick; source = T0; priority = 1; «open» = 7; commit = 8 }

abbrev pub range : ℕ → ℕ → Range
range first last = record { from = first; to = last }

-- The map: one event, one state of one byte, one output, and what the code writes and reports. It writes STATUS, PORTC, INTCON, the
-- state and TRISC.
abbrev pub counter_map : Map
counter_map = record {
  events = tick_event ∷ [];
  states = record { name = codes "count"; ty = U8; low = state_byte; high = state_byte } ∷ [];
  outputs = 2 ∷ [];
  samples = [];
  ready = 15;
  regs = range 0x003 0x003 ∷ range 0x007 0x007 ∷ range 0x00B 0x00B ∷ range 0x020 0x020 ∷ range 0x087 0x087 ∷ [];
  depth = 1;
  ram = 1;
  words = length code;
  settle = settle_bound program;
}

-- Power-on with FFh in all of RAM and in W, and Z, DC and C set.
abbrev pub start : Start
start = record { ram = replicate 368 0xFF; w = 0xFF; flags = 0x07 }

-- Nothing comes at this many boundaries.
abbrev pub quiet : ℕ → List Outer
quiet n = replicate n no_outer

-- A source alone.
abbrev pub alone : Source → Outer
alone source = record no_outer { arrivals = set_of (2 ^ source_number source) }

-- T0 arrives at one boundary, and again when this many have passed between.
abbrev pub twice_at : ℕ → ℕ → Log
twice_at n between = run image start (quiet n ++ alone T0 ∷ quiet between ++ alone T0 ∷ [])

-- T0 arrives at boundaries 11 and 19.
abbrev pub two_ticks : Log
two_ticks = twice_at 11 7

-- A byte on a port.
abbrev pub puts : ℕ → ℕ → PortWrite
puts its_port its_byte = record { port = its_port; byte = its_byte }

-- The depth after k steps is at most the map's.
abbrev pub fits : Map → Log → ℕ → Bool
fits m log k = nat_le (chip_after log k).depth m.depth

-- A step that writes a register writes a listed one.
abbrev pub writes_listed : Map → Step → Bool
writes_listed m step = elim step.wrote [ Some address ↦ is_listed m address | None ↦ true ]
