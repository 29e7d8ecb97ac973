-- The steps of the core of lists that a log of the chip shows.
use Rattle.std.specs.Prelude.{ℕ, zero, suc, Bool, true, false, ◌&&◌, ◌||◌, not, ◌==◌, if◌then◌else◌, List, [], ◌∷◌, ◌++◌, filter, Option, Some, None}
use Rattle.std.specs.List.{flat_map}
use Rattle.pic_isa.specs.declared.sources.Source.{Source}
use Rattle.pic_isa.specs.Sources.{sources, source_number}
use Rattle.pic_machine.specs.declared.steps.Did.{Did}
use Rattle.pic_machine.specs.declared.steps.Did.TheVariants.{Took, Ran, Stopped}
use Rattle.pic_machine.specs.Boundary.{Step}
use Rattle.pic_machine.specs.Run.{Log}
use Rattle.map_file.specs.declared.maps.MapEvent.{MapEvent}
use Rattle.map_file.specs.declared.maps.Map.{Map}
use Rattle.firmware_promises.specs.Counts.{takes, ran_at, clears, interrupts_on}
use Rattle.preempt_core.specs.declared.steps.Step.{Step as CoreStep}
use Rattle.preempt_core.specs.declared.steps.Step.TheVariants as core

-- The numbers of the events that pass a test, in declaration order; the first has this number.
abbrev pub numbers_where : (MapEvent → Bool) → ℕ → List MapEvent → List ℕ
numbers_where test k [] = []
numbers_where test k (e ∷ es) = if test e then k ∷ numbers_where test (suc k) es else numbers_where test (suc k) es

-- A source arrives at a step's boundary; it is latched or merged.
abbrev pub arrives : Source → Step → Bool
arrives source step = step.latched source || step.merged source

-- The events that arrive at a step's boundary, in rising number of their sources.
abbrev pub arriving : Map → Step → List ℕ
arriving m step = flat_map (λ source. if arrives source step then numbers_where (λ e. source_number e.source == source_number source) 0 m.events else []) sources

-- The events whose flag a step clears, and those whose commit address it ran.
abbrev pub clearing : Map → Step → List ℕ
clearing m step = numbers_where (λ e. clears e.source step) 0 m.events

abbrev pub committing : Map → Step → List ℕ
committing m step = numbers_where (λ e. ran_at e.commit step) 0 m.events

-- RETFIE, whose word is 0009h, ran.
abbrev pub is_return : Did → Bool
is_return Took = false
is_return (Ran address word) = word == 0x0009
is_return (Stopped address why) = false

-- An instruction other than RETFIE turns interrupts on.
abbrev pub turns_on : Step → Bool
turns_on step = not (interrupts_on step) && step.after.regs.intcon.b7 && not (is_return step.did)

-- What was read of a log: the steps, the last first; while an event is chosen, the events that arrived since the taking, the
-- last first; and of each run that wasn't left, the top one first, whether interrupts were turned on since its event's flag
-- was cleared.
pub record Reading : Type 0 where
  pub steps : List CoreStep
  pub held : Option (List ℕ)
  pub turned : List Bool

abbrev pub add : CoreStep → Reading → Reading
add s r = record r { steps = s ∷ r.steps }

-- An event arrives: its step stands in its place, but while an event is chosen it is held back.
abbrev pub arrive : Reading → ℕ → Reading
arrive r e = elim r.held [ Some held ↦ record r { held = Some (e ∷ held) } | None ↦ add (core.Arrive e) r ]

abbrev pub arrive_all : Reading → List ℕ → Reading
arrive_all r [] = r
arrive_all r (e ∷ es) = arrive_all (arrive r e) es

-- The arrivals of these events, the last first.
abbrev pub arrivals_of : List ℕ → List CoreStep
arrivals_of [] = []
arrivals_of (e ∷ es) = core.Arrive e ∷ arrivals_of es

abbrev pub held_back : Reading → List ℕ
held_back r = elim r.held [ Some held ↦ held | None ↦ [] ]

-- An event is chosen, and its flag cleared: its own arrivals stand before the Take, those of other events that were held back
-- just after it.
abbrev pub take_event : Reading → ℕ → Reading
take_event r e = record {
  steps = arrivals_of (filter (λ x. not (x == e)) (held_back r)) ++ (core.Take ∷ (arrivals_of (filter (λ x. x == e) (held_back r)) ++ r.steps));
  held = None;
  turned = false ∷ r.turned;
}

abbrev pub take_all : Reading → List ℕ → Reading
take_all r [] = r
take_all r (e ∷ es) = take_all (take_event r e) es

abbrev pub commit_all : Reading → List ℕ → Reading
commit_all r [] = r
commit_all r (e ∷ es) = commit_all (add core.Commit r) es

abbrev pub drop_top : List Bool → List Bool
drop_top [] = []
drop_top (b ∷ bs) = bs

abbrev pub resume : Bool → Reading → Reading
resume true r = record (add core.Resume r) { turned = drop_top r.turned }
resume false r = r

-- Interrupts are turned on: by the run at the top, which begins, or begins again where it has done so before.
abbrev pub turn_on : Bool → Reading → Reading
turn_on false r = r
turn_on true r = elim r.turned [ [] ↦ r | before ∷ others ↦ (if before then add core.Redo r else record r { turned = true ∷ others }) ]

-- A choice begins with a taking.
abbrev pub choose : Bool → Reading → Reading
choose true r = record r { held = Some (held_back r) }
choose false r = r

-- A step of the chip is read: what arrives, then what it does.
abbrev pub read_step : Map → Reading → Step → Reading
read_step m r step = choose (takes step) (turn_on (turns_on step) (resume (is_return step.did) (commit_all (take_all (arrive_all r (arriving m step)) (clearing m step)) (committing m step))))

abbrev pub reading : Map → Log → ℕ → Reading
reading m log zero = record { steps = []; held = None; turned = [] }
reading m log (suc n) = read_step m (reading m log n) (log n)

-- The steps that the first n steps of a log show, the last first. Where they end while an event is chosen, the arrivals that
-- are held back stand last.
abbrev pub core_steps : Map → Log → ℕ → List CoreStep
core_steps m log n = arrivals_of (held_back (reading m log n)) ++ (reading m log n).steps
