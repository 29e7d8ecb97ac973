-- Computed lines, and the trace of a program of one word.
use Rattle.std.proofs.Common.{◌≡◌, ℕ, [], ◌∷◌, true, false, Some, None, codes, refl}
use Rattle.std.specs.Fmt.{digits}
use Rattle.std.specs.List.{flat_map}
use Rattle.frp_tree.specs.declared.syntax.Ty.TheVariants as ty
use Rattle.hex_file.specs.declared.images.Image.{Image}
use Rattle.pic_isa.specs.declared.sources.Source.TheVariants.{Int, Tmr1}
use Rattle.pic_regs.specs.Arrivals.{no_source, set_of}
use Rattle.pic_regs.specs.Bytes.{bits}
use Rattle.pic_regs.specs.Start.{registers_on}
use Rattle.pic_machine.specs.declared.steps.Did.TheVariants.{Took, Ran}
use Rattle.pic_machine.specs.Run.{run}
use Rattle.map_file.specs.declared.maps.MapEvent.{MapEvent}
use Rattle.map_file.specs.declared.maps.Map.{Map}
use Rattle.arrival_script.specs.declared.scripts.Late.TheVariants.{Never, Odd}
use Rattle.arrival_script.specs.declared.scripts.Script.{Script}
use Rattle.arrival_script.specs.Trace.{start_of, outers_of, pins_at, is_late_at, set_at, arrival_lines, take_line, sample_line, open_line, port_line, commit_line, lines_of, trace_text}

-- A script of two arrivals, whose fill byte is 01h.
abbrev script : Script
script = record { fill = 1; late = Never; arrivals = record { at = 0; sources = 0x82 } ∷ record { at = 2; sources = 0x02 } ∷ []; pins = []; steps = 3 }

third : set_at script.arrivals 2 Int ≡ set_at script.arrivals 0 Tmr1
third = refl

second_empty : set_at script.arrivals 1 ≡ no_source
second_empty = refl

-- Sources stand by their number.
latched_in_order : arrival_lines 4 (set_of 0x82) no_source ≡ codes "4 latch INT\n4 latch TMR1\n"
unfolding digits
latched_in_order = refl

merged_first : arrival_lines 12 (set_of 0x80) (set_of 0x02) ≡ codes "12 merge INT\n12 latch TMR1\n"
unfolding digits
merged_first = refl

taken : take_line 5 Took ≡ codes "5 take\n"
unfolding digits
taken = refl

-- Two events share their open address, and have a line each, in order.
abbrev go : MapEvent
go = record { name = codes "Go"; source = Int; priority = 1; «open» = 4; commit = 7 }

abbrev tick : MapEvent
tick = record { name = codes "Tick"; source = Tmr1; priority = 2; «open» = 4; commit = 9 }

abbrev map : Map
map = record {
  events = go ∷ tick ∷ [];
  states = record { name = codes "n"; ty = ty.U8; low = 0x020; high = 0x020 } ∷ record { name = codes "w"; ty = ty.U16; low = 0x020; high = 0x021 } ∷ [];
  outputs = [];
  samples = record { event = codes "Tick"; input = codes "level"; at = 3 } ∷ record { event = codes "Go"; input = codes "level"; at = 3 } ∷ [];
  ready = 11;
  regs = [];
  depth = 1;
  ram = 2;
  words = 12;
  settle = 20;
}

both_open : flat_map (open_line 6 (Ran 4 0x108B)) map.events ≡ codes "6 open Go\n6 open Tick\n"
unfolding digits
both_open = refl

two_samples : flat_map (sample_line 6 (Ran 3 0x0806) 0x1F) map.samples ≡ codes "6 sample Tick level 1F\n6 sample Go level 1F\n"
unfolding digits
two_samples = refl

one_port : port_line 8 (Some (record { port = 1; byte = 0xA })) ≡ codes "8 port PORTB 0A\n"
unfolding digits
one_port = refl

one_commit : flat_map (commit_line map 8 (Ran 7 0x0086) (registers_on (start_of script))) map.events ≡ codes "8 commit Go n=1 w=257\n"
unfolding digits
one_commit = refl

no_commit : flat_map (commit_line map 8 Took (registers_on (start_of script))) map.events ≡ []
no_commit = refl

-- A program that goes round on one word, and one that sleeps.
abbrev one_word : ℕ → Image
one_word word = record { words = record { address = 0; word = word } ∷ []; config = None; aside = [] }

whole : trace_text map (run (one_word 0x2800) (start_of script) (outers_of script)) 3 ≡ codes "0 latch INT\n0 latch TMR1\n2 merge INT\nend 3 deepest 0 n=1 w=257\n"
unfolding digits
whole = refl

up_to_the_stop : lines_of map (run (one_word 0x0063) (start_of script) (outers_of script)) 1 ≡ codes "0 latch INT\n0 latch TMR1\n"
unfolding digits
up_to_the_stop = refl

-- From its boundary on the pins of a port are the byte, and an interrupt that is late is taken one step later.
abbrev outside : Script
outside = record {
  fill = 0;
  late = Odd;
  arrivals = record { at = 5; sources = 0x02 } ∷ [];
  pins = record { at = 0; port = 1; byte = 0x10 } ∷ record { at = 1; port = 1; byte = 0x5A } ∷ [];
  steps = 8;
}

pin_changed : pins_at outside.pins 1 1 ≡ Some (bits 0x5A)
pin_changed = refl

no_pin_changed : pins_at outside.pins 2 1 ≡ None
no_pin_changed = refl

odd_is_late : is_late_at outside.late 5 ≡ true
odd_is_late = refl

even_is_not : is_late_at outside.late 6 ≡ false
even_is_not = refl

-- From 0005h on: PORTB, an input, is read; INT is turned on; and then a goto to itself.
abbrev reader : Image
reader = record {
  words =
      record { address = 0; word = 0x2805 } ∷ record { address = 4; word = 0x2804 } ∷ record { address = 5; word = 0x0806 } ∷ record { address = 6; word = 0x3090 }
      ∷ record { address = 7; word = 0x008B } ∷ record { address = 8; word = 0x2808 } ∷ [];
  config = None;
  aside = [];
}

abbrev sampled : Map
sampled = record map { events = []; states = []; samples = record { event = codes "Tick"; input = codes "level"; at = 5 } ∷ [] }

late_trace : trace_text sampled (run reader (start_of outside) (outers_of outside)) 8 ≡ codes "1 sample Tick level 5A\n5 latch INT\n6 take\nend 8 deepest 1\n"
unfolding digits
late_trace = refl
