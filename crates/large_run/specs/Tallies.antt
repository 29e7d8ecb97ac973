-- The run of the image of a large program, and what is counted over it.
use Rattle.std.specs.Prelude.{◌≡◌, ℕ, ◌+◌, ◌*◌, ◌^◌, ◌≤◌, Bool, List, [], length, map, sum_by, Some}
use Rattle.hex_file.specs.declared.images.Image.{Image}
use Rattle.pic_isa.specs.declared.sources.Source.{Source}
use Rattle.pic_isa.specs.Sources.{sources}
use Rattle.pic_machine.specs.Boundary.{Step}
use Rattle.pic_machine.specs.State.{chip_of, memory_of}
use Rattle.pic_machine.specs.Run.{Log, program_of}
use Rattle.map_file.specs.declared.maps.Map.{Map}
use Rattle.arrival_script.specs.declared.scripts.Arrival.{Arrival}
use Rattle.arrival_script.specs.declared.scripts.Late.TheVariants.{Never}
use Rattle.arrival_script.specs.declared.scripts.Script.{Script}
use Rattle.arrival_script.specs.Sends.{RiseFrom}
use Rattle.arrival_script.specs.Trace.{set_at, deepest}
use Rattle.arrival_script.specs.Running.{log_of, chip_at}
use Rattle.firmware_promises.specs.Counts.{chip_after, commits, count, latches}
use Rattle.firmware_promises.specs.Laws.{unsampled}
use Rattle.firmware_promises.specs.MapNames.{states_in}
use Rattle.efrp_meaning.specs.Meaning.{state_after}
use Rattle.large_program.specs.declared.arriving.OneArrival.{OneArrival}
use Rattle.large_program.specs.Arrivals.{arrivals, last_boundary}
use Rattle.large_program.specs.LargePrograms.{large_program}
use Rattle.large_run.specs.declared.tallies.Tally.{Tally}
use Rattle.large_run.specs.declared.tallies.Ran.{Ran}
use Rattle.large_run.specs.declared.tallies.Run.{Run}

-- One source that arrives at a boundary, as an arrival of a script.
abbrev pub arrival_of : OneArrival → Arrival
arrival_of a = record { at = a.at; sources = 2 ^ a.source }

abbrev pub as_script : List OneArrival → List Arrival
as_script all = map arrival_of all

-- The steps of the run of a number's program with a map: to the last arrival's boundary, the map's settle, and one more.
abbrev pub steps_of : ℕ → Map → ℕ
steps_of n m = last_boundary n + m.settle + 1

-- What comes from outside in that run. RAM and W are filled with 0, no interrupt is late, and no pin changes.
abbrev pub script_of : ℕ → Map → Script
script_of n m = record { fill = 0; late = Never; arrivals = as_script (arrivals n); pins = []; steps = steps_of n m }

abbrev pub run_of : ℕ → Image → Map → Log
run_of n image m = log_of image (script_of n m)

-- How many arrivals were latched in the first k steps, and how many were merged.
abbrev pub merges : Source → Step → Bool
merges source step = step.merged source

abbrev pub latched_in : Log → ℕ → ℕ
latched_in log k = sum_by (λ source. count log (latches source) k) sources

abbrev pub merged_in : Log → ℕ → ℕ
merged_in log k = sum_by (λ source. count log (merges source) k) sources

-- All have reacted after k steps: each of the 200 arrivals was latched or merged, there are as many commits as latched arrivals,
-- and the states are those that the model gives over the committed events.
pub record AllReacted (n : ℕ) (m : Map) (log : Log) (k : ℕ) : Type 0 where
  pub arrived : latched_in log k + merged_in log k ≡ 200
  pub committed : length (commits m log k) ≡ latched_in log k
  pub states : state_after (large_program n) (map unsampled (commits m log k)) ≡ Some (states_in m (chip_after log k))

-- What a tally has counted over the first k steps.
pub record IsTally (m : Map) (log : Log) (k : ℕ) (t : Tally) : Type 0 where
  pub latched : t.latched ≡ latched_in log k
  pub merged : t.merged ≡ merged_in log k
  pub commits : t.commits ≡ length (commits m log k)
  pub deepest : t.deepest ≡ deepest log k

-- Over k steps so few are counted: in each at most 16 that were latched, 16 that were merged, and 11 commits.
pub record IsFew (k : ℕ) (t : Tally) : Type 0 where
  pub latched : t.latched ≤ 16 * k
  pub merged : t.merged ≤ 16 * k
  pub commits : t.commits ≤ 11 * k

-- The first k steps are done: the chip is the one after them, what arrives from boundary k on is left, and they are counted.
pub record HasRun (n : ℕ) (image : Image) (m : Map) (k : ℕ) (run : Run) : Type 0 where
  pub memory : memory_of run.chip ≡ program_of image
  pub chip : chip_of run.chip ≡ chip_at image (script_of n m) k
  pub rise : RiseFrom k (as_script run.pending.now)
  pub left : (i : ℕ) → k ≤ i → set_at (as_script run.pending.now) i ≡ set_at (as_script (arrivals n)) i
  pub tally : IsTally m (run_of n image m) k run.tally

-- The whole run is done: the chip is the one after its last step, and all steps are counted.
pub record HasRunWhole (n : ℕ) (image : Image) (m : Map) (ran : Ran) : Type 0 where
  pub chip : chip_of ran.chip ≡ chip_at image (script_of n m) (steps_of n m)
  pub tally : IsTally m (run_of n image m) (steps_of n m) ran.tally
