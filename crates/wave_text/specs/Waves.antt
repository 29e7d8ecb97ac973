-- The text of a run's waves: a value change dump of IEEE 1364.
use Rattle.std.specs.Prelude.{◌≡◌, ℕ, zero, suc, Bool, true, false, not, ◌==◌, if◌then◌else◌, List, [], ◌∷◌, ◌++◌, Option, Some, None, Result, Ok, Err, String, string_bytes, codes}
use Rattle.std.specs.List.{flat_map}
use Rattle.std.specs.Fmt.{decimal, digits}
use Rattle.std.specs.declared.alloc.Global.{Global}
use Rattle.frp_tree.specs.declared.syntax.Ty.{Ty}
use Rattle.frp_tree.specs.declared.syntax.Ty.TheVariants as ty
use Rattle.pic_isa.specs.declared.sources.Source.{Source}
use Rattle.pic_isa.specs.Sources.{source_number}
use Rattle.pic_isa.specs.Names.{name_of_port}
use Rattle.pic_machine.specs.declared.steps.Did.TheVariants.{Stopped}
use Rattle.pic_machine.specs.Run.{Log}
use Rattle.map_file.specs.declared.maps.MapEvent.{MapEvent}
use Rattle.map_file.specs.declared.maps.MapState.{MapState}
use Rattle.map_file.specs.declared.maps.Map.{Map}
use Rattle.arrival_script.specs.Trace.{GoesOn, StopsFirst}
use Rattle.wave_text.specs.declared.signals.Signal.{Signal}
use Rattle.wave_text.specs.declared.signals.Signal.TheVariants.{Latch, Run, Window, Port, State, Depth}
use Rattle.wave_text.specs.declared.waves.WaveFault.{WaveFault}
use Rattle.wave_text.specs.declared.waves.WaveFault.TheVariants as fault
use Rattle.wave_text.specs.Signals.{signals, level_after}

-- The codes by which the text names signals. Those of an event end in the number of its source, a port's in its own, and a state's
-- in the addresses of its bytes. Two signals have one code only where they are of the same port or of the same bytes.
abbrev pub latch_code : Source → List ℕ
latch_code source = codes "l" ++ decimal (source_number source)

abbrev pub run_code : Source → List ℕ
run_code source = codes "r" ++ decimal (source_number source)

abbrev pub window_code : Source → List ℕ
window_code source = codes "w" ++ decimal (source_number source)

abbrev pub port_code : ℕ → List ℕ
port_code port = codes "p" ++ decimal port

abbrev pub state_code : Ty → ℕ → ℕ → List ℕ
state_code ty.Bool low high = codes "t" ++ decimal low
state_code ty.U8 low high = codes "u" ++ decimal low
state_code ty.U16 low high = codes "v" ++ (decimal low ++ (codes "." ++ decimal high))

-- A line that declares a signal of so many bits, by its code and its name.
abbrev pub var_line : List ℕ → List ℕ → List ℕ → List ℕ
var_line bits code name = codes "$var wire " ++ (bits ++ (codes " " ++ (code ++ (codes " " ++ (name ++ codes " $end\n")))))

abbrev pub scope_line : List ℕ → List ℕ
scope_line name = codes "$scope module " ++ (name ++ codes " $end\n")

abbrev pub upscope_line : List ℕ
upscope_line = codes "$upscope $end\n"

abbrev pub event_vars : MapEvent → List ℕ
event_vars e =
    scope_line e.name
    ++ (var_line (codes "1") (latch_code e.source) (codes "latch")
    ++ (var_line (codes "1") (run_code e.source) (codes "run") ++ (var_line (codes "1") (window_code e.source) (codes "window") ++ upscope_line)))

abbrev pub port_var : ℕ → List ℕ
port_var port = var_line (codes "8") (port_code port) (name_of_port port)

abbrev pub bits_of : Ty → List ℕ
bits_of ty.Bool = codes "1"
bits_of ty.U8 = codes "8"
bits_of ty.U16 = codes "16"

abbrev pub state_var : MapState → List ℕ
state_var s = var_line (bits_of s.ty) (state_code s.ty s.low s.high) s.name

-- What stands before the declarations: what a unit of time is, and that it is written as a microsecond.
abbrev pub preface : List ℕ
preface =
    codes "$comment A unit of time is one step: an instruction or a taking. It is no measure of seconds. $end\n$timescale 1 us $end\n$scope module efrp $end\n"

-- What stands behind the states: the level that runs and the depth of the return stack.
abbrev pub epilogue : List ℕ
epilogue = codes "$upscope $end\n$var wire 4 level level $end\n$var wire 8 depth depth $end\n$upscope $end\n$enddefinitions $end\n"

-- The declarations: each event's three signals, the ports, the states, the level that runs and the depth of the return stack.
abbrev pub header : Map → List ℕ
header m =
    preface
    ++ (scope_line (codes "events")
    ++ (flat_map event_vars m.events
    ++ (upscope_line
    ++ (scope_line (codes "ports")
    ++ (flat_map port_var m.outputs
    ++ (upscope_line
    ++ (scope_line (codes "states")
    ++ (flat_map state_var m.states
    ++ epilogue))))))))

-- The line of a signal of one bit, and of one of more: in binary without zeros before, or x where there is no value.
abbrev pub bit_line : List ℕ → Bool → List ℕ
bit_line code on = (if on then codes "1" else codes "0") ++ (code ++ codes "\n")

abbrev pub number_line : List ℕ → ℕ → List ℕ
number_line code value = codes "b" ++ (digits 2 false value ++ (codes " " ++ (code ++ codes "\n")))

abbrev pub unknown_line : List ℕ → List ℕ
unknown_line code = codes "bx " ++ (code ++ codes "\n")

abbrev pub byte_line : List ℕ → Option ℕ → List ℕ
byte_line code None = unknown_line code
byte_line code (Some byte) = number_line code byte

abbrev pub state_line : Ty → ℕ → ℕ → ℕ → List ℕ
state_line ty.Bool low high value = bit_line (state_code ty.Bool low high) (not (value == 0))
state_line ty.U8 low high value = number_line (state_code ty.U8 low high) value
state_line ty.U16 low high value = number_line (state_code ty.U16 low high) value

abbrev pub signal_line : Signal → List ℕ
signal_line (Latch source on) = bit_line (latch_code source) on
signal_line (Run source priority commits on) = bit_line (run_code source) on
signal_line (Window source opens commits on) = bit_line (window_code source) on
signal_line (Port port byte) = byte_line (port_code port) byte
signal_line (State ty low high value) = state_line ty low high value
signal_line (Depth depth) = number_line (codes "depth") depth

abbrev pub level_line : ℕ → List ℕ
level_line level = number_line (codes "level") level

-- The value of a signal, of one bit 0 or 1. A port has none before its first byte.
abbrev pub bit : Bool → ℕ
bit on = if on then 1 else 0

abbrev pub value : Signal → Option ℕ
value (Latch source on) = Some (bit on)
value (Run source priority commits on) = Some (bit on)
value (Window source opens commits on) = Some (bit on)
value (Port port byte) = byte
value (State ty low high number) = Some number
value (Depth depth) = Some depth

-- Two values differ.
abbrev pub is_other : Option ℕ → Option ℕ → Bool
is_other None None = false
is_other None (Some b) = true
is_other (Some a) None = true
is_other (Some a) (Some b) = not (a == b)

-- The line of a signal that changed, and the lines of all that did.
abbrev pub change_line : Signal → Signal → List ℕ
change_line before now = if is_other (value before) (value now) then signal_line now else []

abbrev pub change_lines : List Signal → List Signal → List ℕ
change_lines [] now = []
change_lines before [] = []
change_lines (b ∷ before) (n ∷ now) = change_line b n ++ change_lines before now

abbrev pub level_change : ℕ → ℕ → List ℕ
level_change before now = if before == now then [] else level_line now

-- What changed with step k.
abbrev pub changes : Map → Log → ℕ → List ℕ
changes m log k = change_lines (signals m log k) (signals m log (suc k)) ++ level_change (level_after m log k) (level_after m log (suc k))

abbrev pub time_line : ℕ → List ℕ
time_line k = codes "#" ++ (decimal k ++ codes "\n")

-- The lines of time k: none where nothing changed, except for the last.
abbrev pub moment : Bool → ℕ → List ℕ → List ℕ
moment last k [] = if last then time_line k else []
moment last k (byte ∷ more) = time_line k ++ (byte ∷ more)

-- The lines of the first k of n steps.
abbrev pub moments : Map → Log → ℕ → ℕ → List ℕ
moments m log n zero = []
moments m log n (suc k) = moments m log n k ++ moment (suc k == n) (suc k) (changes m log k)

-- All signals at power-on.
abbrev pub first_lines : List Signal → ℕ → List ℕ
first_lines all level = codes "#0\n$dumpvars\n" ++ (flat_map signal_line all ++ (level_line level ++ codes "$end\n"))

abbrev pub wave_text : Map → Log → ℕ → List ℕ
wave_text m log n = (header m ++ first_lines (signals m log 0) (level_after m log 0)) ++ moments m log n n

-- What is answered of n steps: their text, or the first that stopped. Out of memory may come in place of either.
abbrev pub Draws : Map → Log → ℕ → Result (String Global) WaveFault → Type 0
Draws m log n (Ok text) = GoesOn log n × (string_bytes text ≡ wave_text m log n)
Draws m log n (Err (fault.Stopped k address why)) = StopsFirst log n k × ((log k).did ≡ Stopped address why)
Draws m log n (Err fault.Memory) = Unit {0}
