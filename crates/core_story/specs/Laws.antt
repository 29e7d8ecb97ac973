-- What the laws of `laws.rt` promise: of a log that has a story, and of an image each of whose runs has one.
use Rattle.std.specs.Prelude.{◌≡◌, ℕ, ◌+◌, ◌<◌, ◌≤◌, List, true}
use Rattle.frp_tree.specs.Tree.{ProgramTree}
use Rattle.efrp_meaning.specs.Bounds.{settle_bound}
use Rattle.pic_isa.specs.declared.sources.Source.{Source}
use Rattle.pic_regs.specs.declared.starts.Start.{Start}
use Rattle.pic_regs.specs.Start.{IsStart}
use Rattle.pic_machine.specs.Boundary.{Outer}
use Rattle.pic_machine.specs.Run.{Log, run}
use Rattle.hex_file.specs.declared.images.Image.{Image}
use Rattle.map_file.specs.declared.maps.Map.{Map}
use Rattle.map_file.specs.MapRules.{IsMap}
use Rattle.firmware_promises.specs.Counts.{latches}
use Rattle.firmware_promises.specs.Firmware.{Names, Keeps, AlwaysKeeps, AlwaysSettles}
use Rattle.firmware_promises.specs.Settled.{Settled}
use Rattle.timed_core.specs.Timing.{Timing}
use Rattle.core_story.specs.Story.{Story}

-- The map is the program's, by an image whose words stand at the addresses that it names.
pub record Maps (p : ProgramTree) (image : Image) (m : Map) : Type 0 where
  pub names : Names p image m
  pub rules : IsMap m

-- A log that has a story keeps at every moment what firmware promises.
abbrev pub StoriesKeep : Type 0
StoriesKeep = (p : ProgramTree) (image : Image) (m : Map) (t : Timing) (log : Log) → Maps p image m → Story p m t log → (n : ℕ) → Keeps p m log n

-- It has settled after n steps that are at least the program's bound, counted from power-on and from each latch before.
abbrev pub StoriesSettle : Type 0
StoriesSettle =
    (p : ProgramTree) (image : Image) (m : Map) (t : Timing) (log : Log) → Maps p image m → Story p m t log → (n : ℕ) → settle_bound p ≤ n
    → ((k : ℕ) (source : Source) → k < n → latches source (log k) ≡ true → k + settle_bound p ≤ n) → Settled m log n

-- Each run of an image has a story, from every start and whatever comes from outside.
abbrev pub TellsStories : ProgramTree → Image → Map → Timing → Type 0
TellsStories p image m t = (start : Start) (outers : List Outer) → IsStart start → Story p m t (run image start outers)

-- Such an image keeps what it promises in every run, and settles within the steps of its map.
abbrev pub ImagesKeep : Type 0
ImagesKeep = (p : ProgramTree) (image : Image) (m : Map) (t : Timing) → Maps p image m → TellsStories p image m t → AlwaysKeeps p image m

abbrev pub ImagesSettle : Type 0
ImagesSettle = (p : ProgramTree) (image : Image) (m : Map) (t : Timing) → Maps p image m → TellsStories p image m t → AlwaysSettles p image m
