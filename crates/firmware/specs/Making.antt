-- What firmware is made of on the way to it: the bytes that are placed, the work of each event, and the frame of each event's run.
use Rattle.std.specs.Prelude.{◌≡◌, ℕ, ◌<◌, ◌≤◌, ◌⊎◌, List, length, map, slice_get, Some}
use Rattle.frp_tree.specs.declared.syntax.Event.{Event}
use Rattle.frp_tree.specs.Tree.{ProgramTree}
use Rattle.efrp_meaning.specs.Bounds.{greatest, levels, ram_bound, scratch_bytes, state_bytes}
use Rattle.efrp_types.specs.Numbers.{event_name}
use Rattle.bank_alloc.specs.declared.needs.Needs.{Needs}
use Rattle.priority_masks.specs.Levels.{AreLevelsOf}
use Rattle.code_items.specs.declared.items.Item.{Item}
use Rattle.code_items.specs.Items.{has_pages, words_in}
use Rattle.scratch_commit.specs.declared.frames.Frame.{Frame}
use Rattle.scratch_commit.specs.Plans.{frame_in}
use Rattle.event_ops.specs.declared.results.EventOps.{EventOps}
use Rattle.event_ops.specs.Works.{Works}
use Rattle.event_code.specs.declared.works.Work.{Work}
use Rattle.event_code.specs.Works.{IsWorkOf}
use Rattle.firmware_map.specs.Laws.{HasNames}
use Rattle.firmware_layout.specs.declared.code.Parts.{Parts}
use Rattle.firmware_layout.specs.Codes.{program_in}
use Rattle.firmware_layout.specs.Pieces.{Makings, plan_in}
use Rattle.firmware.specs.declared.faults.BuildFault.{BuildFault}
use Rattle.firmware.specs.declared.faults.BuildFault.TheVariants.{Code, Memory, Ram}
use Rattle.firmware.specs.Builds.{IsBuildFault, IsBuildable}

-- The program's bytes: those of its states, a frame for each level, and the most scratch that an event takes.
pub record AreNeeds (p : ProgramTree) (need : Needs) : Type 0 where
  pub states : need.states ≡ state_bytes p
  pub levels : need.levels ≡ levels p
  pub scratch : need.scratch ≡ greatest (map (λ (e : Event). scratch_bytes p e.name) p.events)

-- The work of the event with this number: the code of what the event does with bytes.
pub record IsWorkFor (p : ProgramTree) (need : Needs) (event : ℕ) (work : Work) : Type 0 where
  pub ops : EventOps
  pub works : Works p (event_name p event) ops
  pub is_work : IsWorkOf need ops work

-- The works of these first events, and of all.
pub record AreWorksOf (p : ProgramTree) (need : Needs) (count : ℕ) (works : List Work) : Type 0 where
  pub number : length works ≡ count
  pub each : (event : ℕ) (work : Work) → slice_get works event ≡ Some work → IsWorkFor p need event work

abbrev pub AreWorks : ProgramTree → Needs → List Work → Type 0
AreWorks p need works = AreWorksOf p need (length p.events) works

-- The frames of the runs of these first events, and of all.
pub record AreFramesOf (f : Makings) (count : ℕ) (frames : List Frame) : Type 0 where
  pub number : length frames ≡ count
  pub each : (event : ℕ) → event < count → slice_get frames event ≡ Some (frame_in (plan_in f event))

abbrev pub AreFrames : Makings → List Frame → Type 0
AreFrames f frames = AreFramesOf f (length f.p.events) frames

-- The parts are those of a program that can be built.
pub record AreMade (parts : Parts) : Type 0 where
  pub buildable : IsBuildable (program_in parts)
  pub names : HasNames (program_in parts)
  pub levels : AreLevelsOf (program_in parts) parts.levels.now
  pub needs : AreNeeds (program_in parts) parts.places.now.need
  pub works : AreWorks (program_in parts) parts.places.now.need parts.works.now

-- Out of memory, or the program's bytes are too many.
abbrev pub IsRamFault : ProgramTree → BuildFault → Type 0
IsRamFault p fault = (fault ≡ Memory) ⊎ ((fault ≡ Ram (ram_bound p)) × (352 < ram_bound p))

-- Out of memory, or the items have more words than program memory, with their number.
abbrev pub IsCodeFault : List Item → BuildFault → Type 0
IsCodeFault items fault = (fault ≡ Memory) ⊎ ((fault ≡ Code (words_in (has_pages items) items)) × (8192 < words_in (has_pages items) items))

-- Out of memory, or a fault of the program.
abbrev pub IsFault : ProgramTree → BuildFault → Type 0
IsFault p fault = (fault ≡ Memory) ⊎ IsBuildFault p fault
