-- The run of a large program, step by step.
use Rattle.std.proofs.Common.{◌≡◌, ℕ, zero, suc, ◌+◌, ◌^◌, ◌<◌, ◌≤◌, false, cond, List, [], ◌∷◌, length, map, get_or, refl, sym, ap, subst, ◌∙◌, add-one, arith}
use Rattle.std.specs.List.{AllByRecursion, range_with_len}
use Rattle.std.proofs.Math.Pow.{pow-lt}
use Rattle.std.proofs.lemmas.Bool.{ne_eqb}
use Rattle.std.proofs.lemmas.List.FromFn.{get_or-map-range_with_len}
use Rattle.hex_file.specs.declared.images.Image.{Image}
use Rattle.pic_regs.specs.Arrivals.{Sources, no_source, set_of}
use Rattle.pic_regs.proofs.ArrivalLaws.{set_of-zero}
use Rattle.pic_machine.specs.declared.steps.Stepped.{Stepped}
use Rattle.pic_machine.specs.Chip.{Chip}
use Rattle.pic_machine.specs.Boundary.{Outer, Step, boundary, no_outer, no_pins, stepped}
use Rattle.pic_machine.specs.Run.{Log, power_on, program_of, outer_of}
use Rattle.pic_machine.specs.State.{chip_of, memory_of}
use Rattle.map_file.specs.declared.maps.Map.{Map}
use Rattle.arrival_script.specs.declared.scripts.Arrival.{Arrival}
use Rattle.arrival_script.specs.declared.scripts.Script.{Script}
use Rattle.arrival_script.specs.Sends.{RiseFrom}
use Rattle.arrival_script.specs.Trace.{start_of, set_at, outer_at, outers_of}
use Rattle.arrival_script.specs.Running.{chip_at}
use Rattle.large_program.specs.declared.arriving.OneArrival.{OneArrival}
use Rattle.large_program.specs.Arrivals.{arrivals, boundary_of, nth_arrival, source_of}
use Rattle.large_program.specs.Laws.{ArrivalsRise}
use Rattle.large_run.specs.declared.tallies.Run.{Run}
use Rattle.large_run.specs.Tallies.{HasRun, HasRunWhole, IsTally, as_script, run_of, script_of, steps_of}

-- No source arrives where no arrival is left, or the first that is left comes later.
pub none-later : (pending : List Arrival) (low k : ℕ) → RiseFrom low pending → k < low → set_at pending k ≡ no_source
none-later [] low k rise h = refl
none-later (a ∷ more) low k rise h =
    ap (λ b. cond b (set_of a.sources) (set_at more k)) (ne_eqb a.at k (λ e. let l = rise.0 in absurd (omega arith)))
    ∙ none-later more (a.at + 1) k rise.2 (let l = rise.0 in omega arith)

pub later-pending : (pending : List OneArrival) (k : ℕ) (d : OneArrival) → RiseFrom k (as_script pending) → 1 ≤ length pending → ((get_or pending 0 d).at ≡ k → ⊥) → set_of 0 ≡ set_at (as_script pending) k
later-pending [] k d rise h none = absurd (omega arith)
later-pending (a ∷ more) k d rise h none =
    set_of-zero
    ∙ sym (ap (λ b. cond b (set_of (2 ^ a.source)) (set_at (as_script more) k)) (ne_eqb a.at k none) ∙ none-later (as_script more) (a.at + 1) k rise.2 (let l = rise.0 in omega arith))

-- What comes from outside at a step.
pub outer-at : (s : Script) (k : ℕ) → k < s.steps → outer_of (outers_of s) k ≡ outer_at s k
outer-at s k h = get_or-map-range_with_len (outer_at s) 0 s.steps k k no_outer h (omega arith)

-- The arrivals of a number rise, and are of the eleven sources.
abbrev pub arrivals_from : ℕ → ℕ → ℕ → List OneArrival
arrivals_from n i count = map (nth_arrival n) (range_with_len i count)

pub known-sources : (n : ℕ) → ((i : ℕ) → ArrivalsRise n i) → AllByRecursion (λ a. a.source < 11) (arrivals n)
known-sources n law = go 0 200
  where
    go : (i count : ℕ) → AllByRecursion (λ a. a.source < 11) (arrivals_from n i count)
    go i zero = tt
    go i (suc count) = ((law i).source, go (i + 1) count)

pub arrivals-rise : (n : ℕ) → ((i : ℕ) → ArrivalsRise n i) → RiseFrom 0 (as_script (arrivals n))
arrivals-rise n law = go 0 200 0 (omega arith)
  where
    go : (i count low : ℕ) → low ≤ boundary_of n i → RiseFrom low (as_script (arrivals_from n i count))
    go i zero low h = tt
    go i (suc count) low h =
        let above : boundary_of n i + 1 ≤ boundary_of n (i + 1) = let l = (law i).later in omega arith in
        (h, pow-lt {i = source_of n i} {j = 11} (law i).source, go (i + 1) count (boundary_of n i + 1) above)

-- Before the first step.
pub run-none : (n : ℕ) (image : Image) (m : Map) (run : Run) → chip_of run.chip ≡ power_on (start_of (script_of n m)) → memory_of run.chip ≡ program_of image
    → run.pending.now ≡ arrivals n → RiseFrom 0 (as_script run.pending.now) → IsTally m (run_of n image m) 0 run.tally → HasRun n image m 0 run
run-none n image m run chip memory pending rise tally = record {
  memory = memory;
  chip = chip;
  rise = rise;
  left = λ i h. ap (λ all. set_at (as_script all) i) pending;
  tally = tally;
}

-- One step, with what arrives at its boundary.
abbrev pub outer_with : Sources → Outer
outer_with set = record { arrivals = set; pins = no_pins; late = false }

pub record StepRun (k sources : ℕ) (run next : Run) (report : Stepped) : Type 0 where
  pub arriving : set_of sources ≡ set_at (as_script run.pending.now) k
  pub report_is : report ≡ stepped (boundary (memory_of run.chip) (outer_with (set_of sources)) (chip_of run.chip))
  pub chip : chip_of next.chip ≡ (boundary (memory_of run.chip) (outer_with (set_of sources)) (chip_of run.chip)).after
  pub memory : memory_of next.chip ≡ memory_of run.chip
  pub rise : RiseFrom (k + 1) (as_script next.pending.now)
  pub later : (i : ℕ) → k < i → set_at (as_script next.pending.now) i ≡ set_at (as_script run.pending.now) i

step-is : (X : Type 0) (f : Step → X) (n : ℕ) (image : Image) (m : Map) (k sources : ℕ) (run : Run) → k < steps_of n m → set_of sources ≡ set_at (as_script run.pending.now) k → HasRun n image m k run
    → f (boundary (memory_of run.chip) (outer_with (set_of sources)) (chip_of run.chip)) ≡ f (run_of n image m k)
step-is X f n image m k sources run inside arriving so =
    ap (λ program. f (boundary program (outer_with (set_of sources)) (chip_of run.chip))) so.memory
    ∙ ap (λ c. f (boundary (program_of image) (outer_with (set_of sources)) c)) so.chip
    ∙ ap (λ set. f (boundary (program_of image) (outer_with set) (chip_at image (script_of n m) k))) (arriving ∙ so.left k (omega arith))
    ∙ ap (λ o. f (boundary (program_of image) o (chip_at image (script_of n m) k))) (sym (outer-at (script_of n m) k inside))

pub run-more : (n : ℕ) (image : Image) (m : Map) (k sources : ℕ) (run next : Run) (report : Stepped) → StepRun k sources run next report → k < steps_of n m → HasRun n image m k run
    → ((log : Log) → report ≡ stepped (log k) → (chip_of next.chip).depth ≡ (log k).after.depth → IsTally m log k run.tally → IsTally m log (k + 1) next.tally)
    → HasRun n image m (k + 1) next
run-more n image m k sources run next report did inside so counts =
    let chip = did.chip ∙ step-is Chip (λ step. step.after) n image m k sources run inside did.arriving so in
    record {
      memory = did.memory ∙ so.memory;
      chip = chip ∙ sym (ap (chip_at image (script_of n m)) (add-one k));
      rise = did.rise;
      left = λ i h. did.later i (omega arith) ∙ so.left i (omega arith);
      tally = counts (run_of n image m) (did.report_is ∙ step-is Stepped stepped n image m k sources run inside did.arriving so) (ap (λ (c : Chip). c.depth) chip) so.tally;
    }

-- After the last step.
pub run-whole : (n : ℕ) (image : Image) (m : Map) (k : ℕ) (run : Run) → k ≡ steps_of n m → HasRun n image m k run → HasRunWhole n image m (record { chip = run.chip; tally = run.tally })
run-whole n image m k run last so = record {
  chip = so.chip ∙ ap (chip_at image (script_of n m)) last;
  tally = subst (λ steps. IsTally m (run_of n image m) steps run.tally) last so.tally;
}
