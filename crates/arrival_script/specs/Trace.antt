-- What comes from outside by a script, and the text of a trace.
use Rattle.std.specs.Prelude.{◌≡◌, ℕ, zero, suc, ◌+◌, ◌%◌, ◌<◌, Bool, true, false, ◌==◌, ◌&&◌, max, if◌then◌else◌, List, [], ◌∷◌, ◌++◌, map, Option, Some, None, Result, Ok, Err, codes, ◌⊎◌}
use Rattle.std.specs.List.{find, flat_map, range_with_len, repeat}
use Rattle.std.specs.Option.{option_map}
use Rattle.std.specs.Fmt.{decimal}
use Rattle.text_parts.specs.Digits.{hex2}
use Rattle.edge_io.specs.Sinks.{Appends, AppendsPrefix}
use Rattle.pic_isa.specs.declared.sources.Source.{Source}
use Rattle.pic_isa.specs.Sources.{source_name}
use Rattle.pic_isa.specs.Names.{name_of_port}
use Rattle.pic_regs.specs.declared.starts.Start.{Start}
use Rattle.pic_regs.specs.Bytes.{Byte, num, bits}
use Rattle.pic_regs.specs.Registers.{Registers}
use Rattle.pic_regs.specs.Arrivals.{Sources, no_source, set_of}
use Rattle.pic_machine.specs.declared.steps.Did.{Did}
use Rattle.pic_machine.specs.declared.steps.Did.TheVariants.{Took, Ran, Stopped}
use Rattle.pic_machine.specs.declared.steps.PortWrite.{PortWrite}
use Rattle.pic_machine.specs.Boundary.{Outer, Step}
use Rattle.pic_machine.specs.Run.{Log}
use Rattle.pic_machine.specs.Dids.{is_run_at, is_stop}
use Rattle.pic_machine.specs.StateValues.{value_in}
use Rattle.map_file.specs.declared.maps.MapEvent.{MapEvent}
use Rattle.map_file.specs.declared.maps.MapState.{MapState}
use Rattle.map_file.specs.declared.maps.MapSample.{MapSample}
use Rattle.map_file.specs.declared.maps.Map.{Map}
use Rattle.map_file.specs.MapText.{line}
use Rattle.arrival_script.specs.declared.scripts.Arrival.{Arrival}
use Rattle.arrival_script.specs.declared.scripts.PinChange.{PinChange}
use Rattle.arrival_script.specs.declared.scripts.Late.{Late}
use Rattle.arrival_script.specs.declared.scripts.Late.TheVariants.{Never, Always, Odd}
use Rattle.arrival_script.specs.declared.scripts.Script.{Script}
use Rattle.arrival_script.specs.declared.traces.TraceFault.{TraceFault}
use Rattle.arrival_script.specs.declared.traces.TraceFault.TheVariants as fault
use Rattle.arrival_script.specs.Scripts.{sources}

-- A script's start: each of the 368 bytes of RAM, W and the byte of the flags is the fill byte.
abbrev pub start_of : Script → Start
start_of script = record { ram = repeat 368 (script.fill ∷ []); w = script.fill; flags = script.fill }

-- The sources that arrive at a boundary.
abbrev pub set_at : List Arrival → ℕ → Sources
set_at [] boundary = no_source
set_at (a ∷ more) boundary = if a.at == boundary then set_of a.sources else set_at more boundary

-- The pins that change at a boundary, by port.
abbrev pub pins_at : List PinChange → ℕ → ℕ → Option Byte
pins_at changes boundary port = option_map (λ p. bits p.byte) (find (λ p. p.at == boundary && p.port == port) changes)

-- A requested interrupt is late at a boundary.
abbrev pub is_late_at : Late → ℕ → Bool
is_late_at Never boundary = false
is_late_at Always boundary = true
is_late_at Odd boundary = boundary % 2 == 1

-- What comes from outside at a boundary, and at each of a script's steps.
abbrev pub outer_at : Script → ℕ → Outer
outer_at script boundary = record {
  arrivals = set_at script.arrivals boundary;
  pins = pins_at script.pins boundary;
  late = is_late_at script.late boundary;
}

abbrev pub outers_of : Script → List Outer
outers_of script = map (outer_at script) (range_with_len 0 script.steps)

-- A line of step k.
abbrev pub step_line : ℕ → List (List ℕ) → List ℕ
step_line k fields = line (decimal k ∷ fields)

-- The line of a source that was latched or merged at step k.
abbrev pub arrival_line : ℕ → Sources → Sources → Source → List ℕ
arrival_line k latched merged source =
    if latched source then step_line k (codes "latch" ∷ source_name source ∷ [])
    else if merged source then step_line k (codes "merge" ∷ source_name source ∷ [])
    else []

abbrev pub arrival_lines : ℕ → Sources → Sources → List ℕ
arrival_lines k latched merged = flat_map (arrival_line k latched merged) sources

-- The line of a taking.
abbrev pub take_line : ℕ → Did → List ℕ
take_line k Took = step_line k (codes "take" ∷ [])
take_line k (Ran address word) = []
take_line k (Stopped address why) = []

-- The line of an input that an event sampled: the instruction at the sample's address ran, and W is this byte after it.
abbrev pub sample_line : ℕ → Did → ℕ → MapSample → List ℕ
sample_line k did w s = if is_run_at s.at did then step_line k (codes "sample" ∷ s.event ∷ s.input ∷ hex2 w ∷ []) else []

-- The line of an event whose open address ran.
abbrev pub open_line : ℕ → Did → MapEvent → List ℕ
open_line k did e = if is_run_at e.«open» did then step_line k (codes "open" ∷ e.name ∷ []) else []

-- The line of a byte that was put on a port.
abbrev pub port_line : ℕ → Option PortWrite → List ℕ
port_line k None = []
port_line k (Some write) = step_line k (codes "port" ∷ name_of_port write.port ∷ hex2 write.byte ∷ [])

-- A state's name and its value in decimal.
abbrev pub state_field : Registers → MapState → List ℕ
state_field r s = s.name ++ codes "=" ++ decimal (value_in r s.ty s.low s.high)

abbrev pub state_fields : Map → Registers → List (List ℕ)
state_fields m r = map (state_field r) m.states

-- The line of an event whose commit address ran, with all states.
abbrev pub commit_line : Map → ℕ → Did → Registers → MapEvent → List ℕ
commit_line m k did r e = if is_run_at e.commit did then step_line k (codes "commit" ∷ e.name ∷ state_fields m r) else []

-- The lines of step k. W and the states are read after the step.
abbrev pub step_lines : Map → ℕ → Step → List ℕ
step_lines m k step =
    arrival_lines k step.latched step.merged
    ++ (take_line k step.did
    ++ (flat_map (sample_line k step.did (num step.after.w)) m.samples
    ++ (flat_map (open_line k step.did) m.events
    ++ (port_line k step.port
    ++ flat_map (commit_line m k step.did step.after.regs) m.events))))

-- The lines of the first n steps.
abbrev pub lines_of : Map → Log → ℕ → List ℕ
lines_of m log zero = []
lines_of m log (suc n) = lines_of m log n ++ step_lines m n (log n)

-- The registers after the first n steps, and the greatest depth after any of them.
abbrev pub registers_after : Log → ℕ → Registers
registers_after log zero = (log zero).before.regs
registers_after log (suc n) = (log n).after.regs

abbrev pub deepest : Log → ℕ → ℕ
deepest log zero = 0
deepest log (suc n) = max (deepest log n) (log n).after.depth

-- The line after the last of n steps.
abbrev pub end_line : Map → Log → ℕ → List ℕ
end_line m log n = line (codes "end" ∷ decimal n ∷ codes "deepest" ∷ decimal (deepest log n) ∷ state_fields m (registers_after log n))

abbrev pub trace_text : Map → Log → ℕ → List ℕ
trace_text m log n = lines_of m log n ++ end_line m log n

-- No step before n stopped.
abbrev pub GoesOn : Log → ℕ → Type 0
GoesOn log n = (k : ℕ) → k < n → is_stop (log k).did ≡ false

-- Step k, one of the first n, is the first that stopped.
pub record StopsFirst (log : Log) (n k : ℕ) : Type 0 where
  pub in_time : k < n
  pub before : GoesOn log k
  pub stopped : is_stop (log k).did ≡ true

-- The text that is due of n steps: the whole one where no step stops, and otherwise that of the steps up to the stop.
abbrev pub IsDue : Map → Log → ℕ → List ℕ → Type 0
IsDue m log n text = (GoesOn log n × (text ≡ trace_text m log n)) ⊎ ((k : ℕ) × StopsFirst log n k × (text ≡ lines_of m log (k + 1)))

-- What a trace of n steps leaves in a sink, by its answer.
abbrev pub Traces : Map → Log → ℕ → Option (List ℕ) → Option (List ℕ) → Result (Unit {0}) TraceFault → Type 0
Traces m log n old new (Ok done) = GoesOn log n × Appends old new (trace_text m log n)
Traces m log n old new (Err (fault.Stopped k address why)) =
    StopsFirst log n k × ((log k).did ≡ Stopped address why) × Appends old new (lines_of m log (k + 1))
Traces m log n old new (Err fault.Failed) = (text : List ℕ) × IsDue m log n text × AppendsPrefix old new text
Traces m log n old new (Err fault.Memory) = (text : List ℕ) × IsDue m log n text × AppendsPrefix old new text
