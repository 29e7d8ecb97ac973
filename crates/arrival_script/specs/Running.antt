-- A run of a script that is traced, step by step.
use Rattle.std.specs.Prelude.{◌≡◌, ℕ, ◌+◌, ◌≤◌, List, [], Option, Result, Ok, Err, string_bytes}
use Rattle.hex_file.specs.declared.images.Image.{Image}
use Rattle.pic_regs.specs.declared.arriving.Arrived.{Arrived}
use Rattle.pic_regs.specs.Arrivals.{number_of}
use Rattle.pic_machine.specs.declared.steps.Stepped.{Stepped}
use Rattle.pic_machine.specs.Chip.{Chip}
use Rattle.pic_machine.specs.Boundary.{stepped}
use Rattle.pic_machine.specs.Run.{Log, run, after, power_on, program_of, outer_of}
use Rattle.pic_machine.specs.State.{chip_of, memory_of}
use Rattle.map_file.specs.declared.maps.Map.{Map}
use Rattle.arrival_script.specs.declared.scripts.Script.{Script}
use Rattle.arrival_script.specs.declared.tracer.Tracer.{Tracer}
use Rattle.arrival_script.specs.declared.traces.TraceFault.{TraceFault}
use Rattle.arrival_script.specs.Sends.{ChangeFrom, RiseFrom, Sends}
use Rattle.arrival_script.specs.Trace.{Traces, start_of, set_at, pins_at, outers_of, lines_of, deepest, GoesOn}

-- The log of a script's run, and the chip after its first k steps.
abbrev pub log_of : Image → Script → Log
log_of image s = run image (start_of s) (outers_of s)

abbrev pub chip_at : Image → Script → ℕ → Chip
chip_at image s k = after (program_of image) (power_on (start_of s)) (outer_of (outers_of s)) k

-- What a tracer keeps: none of the first k steps stopped, their lines were sent to the sink or are held back, and the
-- arrivals and changes of pins from boundary `next` on are left.
pub record Kept (m : Map) (image : Image) (s : Script) (k next : ℕ) (t : Tracer) (old new : Option (List ℕ)) : Type 0 where
  pub memory : memory_of t.chip ≡ program_of image
  pub goes : GoesOn (log_of image s) k
  pub late : t.late ≡ s.late
  pub rise : RiseFrom next t.pending.now
  pub left : (i : ℕ) → next ≤ i → set_at t.pending.now i ≡ set_at s.arrivals i
  pub change : ChangeFrom next t.changes.now
  pub pins : (i : ℕ) → next ≤ i → pins_at t.changes.now i ≡ pins_at s.pins i
  pub sends : Sends old [] new (string_bytes t.text) (lines_of m (log_of image s) k)

-- The first k steps are done: the chip and the greatest depth are those after them.
pub record Running (m : Map) (image : Image) (s : Script) (k : ℕ) (t : Tracer) (old new : Option (List ℕ)) : Type 0 where
  pub kept : Kept m image s k k t old new
  pub chip : chip_of t.chip ≡ chip_at image s k
  pub greatest : t.deepest ≡ deepest (log_of image s) k

-- Then what comes at boundary k has come: the chip is the one after it, and what arrived is told.
pub record Ready (m : Map) (image : Image) (s : Script) (k : ℕ) (a : Arrived) (t : Tracer) (old new : Option (List ℕ)) : Type 0 where
  pub kept : Kept m image s k (k + 1) t old new
  pub chip : chip_of t.chip ≡ (log_of image s k).arrived
  pub latched : a.latched ≡ number_of (log_of image s k).latched
  pub merged : a.merged ≡ number_of (log_of image s k).merged
  pub greatest : t.deepest ≡ deepest (log_of image s) k

-- Then step k is run, as is reported, and its lines are still to be told.
pub record Ran (m : Map) (image : Image) (s : Script) (k : ℕ) (report : Stepped) (t : Tracer) (old new : Option (List ℕ)) : Type 0 where
  pub kept : Kept m image s k (k + 1) t old new
  pub report_is : report ≡ stepped (log_of image s k)
  pub chip : chip_of t.chip ≡ (log_of image s k).after
  pub greatest : t.deepest ≡ deepest (log_of image s) (k + 1)

-- A step's report with what arrived at its boundary.
abbrev pub with_arrived : Arrived → Stepped → Stepped
with_arrived a report = record report { latched = a.latched; merged = a.merged }

-- What an advance leaves: a tracer that has done so many steps, or a trace that isn't whole.
abbrev pub Advances : Map → Image → Script → Option (List ℕ) → Option (List ℕ) → Tracer → Result ℕ TraceFault → Type 0
Advances m image s old new t (Ok done) = Running m image s done t old new
Advances m image s old new t (Err f) = Traces m (log_of image s) s.steps old new (Err f)
