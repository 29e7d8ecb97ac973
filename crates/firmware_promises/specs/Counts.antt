-- What is counted over a log of the chip's steps: arrivals, clearings, opens, commits, port writes, samples and reactions.
use Rattle.std.specs.Prelude.{ℕ, zero, suc, ◌+◌, Bool, not, ◌&&◌, ◌==◌, List, [], ◌∷◌, ◌++◌, map, filter, find, count_by, Option, Some, None, option_map, if◌then◌else◌}
use Rattle.std.specs.List.{list_any}
use Rattle.std.specs.Str.{bytes_eq}
use Rattle.frp_tree.specs.Tree.{ProgramTree}
use Rattle.efrp_meaning.specs.Decls.{inputs_of}
use Rattle.efrp_meaning.specs.Meaning.{Samples, Occurrence}
use Rattle.pic_isa.specs.declared.sources.Source.{Source}
use Rattle.pic_regs.specs.Bytes.{num, one_if}
use Rattle.pic_regs.specs.Registers.{flag}
use Rattle.pic_machine.specs.declared.steps.PortWrite.{PortWrite}
use Rattle.pic_machine.specs.Chip.{Chip}
use Rattle.pic_machine.specs.Boundary.{Step}
use Rattle.pic_machine.specs.Run.{Log}
use Rattle.pic_machine.specs.Dids.{is_taking, is_run_at}
use Rattle.map_file.specs.declared.maps.MapEvent.{MapEvent}
use Rattle.map_file.specs.declared.maps.MapSample.{MapSample}
use Rattle.map_file.specs.declared.maps.Map.{Map}

-- The chip after the first n steps of a log. After none it is the one before step 0.
abbrev pub chip_after : Log → ℕ → Chip
chip_after log zero = (log zero).before
chip_after log (suc n) = (log n).after

-- How many of the first n steps pass a test.
abbrev pub count : Log → (Step → Bool) → ℕ → ℕ
count log test zero = 0
count log test (suc n) = count log test n + one_if (test (log n))

abbrev pub takes : Step → Bool
takes step = is_taking step.did

-- GIE is on at a boundary: after its arrivals and before its step.
abbrev pub interrupts_on : Step → Bool
interrupts_on step = step.arrived.regs.intcon.b7

abbrev pub ran_at : ℕ → Step → Bool
ran_at address step = is_run_at address step.did

-- A source was latched at a step's boundary; its flag was cleared by the step.
abbrev pub latches : Source → Step → Bool
latches source step = step.latched source

abbrev pub clears : Source → Step → Bool
clears source step = flag source step.arrived.regs && not (flag source step.after.regs)

-- Counts of an event over the first n steps: its latched arrivals, and the steps that cleared its flag.
abbrev pub latched_count : Log → MapEvent → ℕ → ℕ
latched_count log e n = count log (latches e.source) n

abbrev pub cleared_count : Log → MapEvent → ℕ → ℕ
cleared_count log e n = count log (clears e.source) n

-- An event's flag after the first n steps, 0 or 1.
abbrev pub flag_after : Log → MapEvent → ℕ → ℕ
flag_after log e n = one_if (flag e.source (chip_after log n).regs)

-- The events whose open address a step ran, and those whose commit address it ran, by name.
abbrev pub opened_by : Map → Step → List (List ℕ)
opened_by m step = map (λ e. e.name) (filter (λ e. ran_at e.«open» step) m.events)

abbrev pub committed_by : Map → Step → List (List ℕ)
committed_by m step = map (λ e. e.name) (filter (λ e. ran_at e.commit step) m.events)

-- The events that opened, and those that committed, in the first n steps, in order. The commits are the serial order.
abbrev pub opens : Map → Log → ℕ → List (List ℕ)
opens m log zero = []
opens m log (suc n) = opens m log n ++ opened_by m (log n)

abbrev pub commits : Map → Log → ℕ → List (List ℕ)
commits m log zero = []
commits m log (suc n) = commits m log n ++ committed_by m (log n)

-- How often an event committed in the first n steps.
abbrev pub commit_count : Map → Log → MapEvent → ℕ → ℕ
commit_count m log e n = count_by (bytes_eq e.name) (commits m log n)

-- An event is under way after the first n steps: its flag was cleared once more than it committed.
abbrev pub is_under_way : Map → Log → MapEvent → ℕ → Bool
is_under_way m log e n = cleared_count log e n == commit_count m log e n + 1

-- What was put on ports in the first n steps, in order.
abbrev pub put_by : Option PortWrite → List PortWrite
put_by None = []
put_by (Some write) = write ∷ []

abbrev pub port_writes : Log → ℕ → List PortWrite
port_writes log zero = []
port_writes log (suc n) = port_writes log n ++ put_by (log n).port

-- The address at which an event samples an input, by their names: that of the map's line, where there is one.
abbrev pub sample_at : Map → List ℕ → List ℕ → Option ℕ
sample_at m event input = option_map (λ (s : MapSample). s.at) (find (λ (s : MapSample). bytes_eq s.event event && bytes_eq s.input input) m.samples)

-- W after the last of the first s steps that ran an address, and 0 where none did.
abbrev pub w_from : Log → ℕ → ℕ → ℕ
w_from log address zero = 0
w_from log address (suc k) = if ran_at address (log k) then num (log k).after.w else w_from log address k

-- What an input was sampled as before step s; 0 where the event has no line for it.
abbrev pub sampled : Log → Option ℕ → ℕ → ℕ
sampled log None s = 0
sampled log (Some address) s = w_from log address s

-- The samples of an event whose window opens at step s: a byte for each input of the program, in declaration order.
abbrev pub samples_before : ProgramTree → Map → Log → List ℕ → ℕ → Samples
samples_before p m log event s = map (λ input. sampled log (sample_at m event input.name) s) (inputs_of p)

-- The samples of the last window of an event that opened in the first n steps; all 0 where none did.
abbrev pub window_samples : ProgramTree → Map → Log → List ℕ → ℕ → Samples
window_samples p m log event zero = map (λ input. 0) (inputs_of p)
window_samples p m log event (suc k) =
    if list_any (bytes_eq event) (opened_by m (log k)) then samples_before p m log event k else window_samples p m log event k

-- The reactions of the first n steps: the events that committed, in order, each with the samples of its window.
abbrev pub reactions : ProgramTree → Map → Log → ℕ → List Occurrence
reactions p m log zero = []
reactions p m log (suc n) =
    reactions p m log n ++ map (λ name. record { event = name; samples = window_samples p m log name n }) (committed_by m (log n))
