-- What the laws of `laws.rt` promise: of a log that has a story, and of an image each of whose runs has one.
use Rattle.std.specs.Prelude.{◌≡◌, ℕ, true, List}
use Rattle.frp_tree.specs.Tree.{ProgramTree}
use Rattle.pic_isa.specs.declared.sources.Source.{Source}
use Rattle.pic_regs.specs.declared.starts.Start.{Start}
use Rattle.pic_regs.specs.Registers.{flag}
use Rattle.pic_regs.specs.Start.{IsStart}
use Rattle.pic_machine.specs.Boundary.{Outer}
use Rattle.pic_machine.specs.Run.{Log, run}
use Rattle.hex_file.specs.declared.images.Image.{Image}
use Rattle.map_file.specs.declared.maps.Map.{Map}
use Rattle.firmware_promises.specs.Counts.{chip_after}
use Rattle.firmware_promises.specs.Account.{Accounted, Responds}
use Rattle.timed_core.specs.Timing.{Timing}
use Rattle.core_story.specs.Story.{Story}
use Rattle.core_story.specs.Laws.{Maps, TellsStories}
use Rattle.core_steps.specs.Tied.{Tied}

-- Each step of a log begins with the chip that the step before it left.
abbrev pub IsJoined : Log → Type 0
IsJoined log = (n : ℕ) → (log n).before ≡ chip_after log n

-- A source that merges at a step's boundary had its flag set before.
abbrev pub MergesSet : Log → Type 0
MergesSet log = (n : ℕ) (source : Source) → (log n).merged source ≡ true → flag source (log n).before.regs ≡ true

-- In a log that has a story no latch waits longer than its response and what the others cost.
abbrev pub StoriesAccount : Type 0
StoriesAccount = (p : ProgramTree) (image : Image) (m : Map) (t : Timing) (log : Log) → Maps p image m → Story p m t log → (n : ℕ) → Accounted p m log n

-- An event that is alone commits within its response.
abbrev pub StoriesRespond : Type 0
StoriesRespond = (p : ProgramTree) (image : Image) (m : Map) (t : Timing) (log : Log) → Maps p image m → Story p m t log → IsJoined log → (n : ℕ) → Responds p m log n

-- A log that has a story is tied to the core of lists.
abbrev pub StoriesTied : Type 0
StoriesTied = (p : ProgramTree) (image : Image) (m : Map) (t : Timing) (log : Log) → Maps p image m → Story p m t log → IsJoined log → MergesSet log → (n : ℕ) → Tied p m log n

-- The same of an image: in every run from a start, whatever comes from outside, and at every moment.
abbrev pub AlwaysAccounted : ProgramTree → Image → Map → Type 0
AlwaysAccounted p image m = (start : Start) (outers : List Outer) (n : ℕ) → IsStart start → Accounted p m (run image start outers) n

abbrev pub AlwaysResponds : ProgramTree → Image → Map → Type 0
AlwaysResponds p image m = (start : Start) (outers : List Outer) (n : ℕ) → IsStart start → Responds p m (run image start outers) n

abbrev pub AlwaysTied : ProgramTree → Image → Map → Type 0
AlwaysTied p image m = (start : Start) (outers : List Outer) (n : ℕ) → IsStart start → Tied p m (run image start outers) n

-- Such is each image each of whose runs has a story.
abbrev pub ImagesAccount : Type 0
ImagesAccount = (p : ProgramTree) (image : Image) (m : Map) (t : Timing) → Maps p image m → TellsStories p image m t → AlwaysAccounted p image m

abbrev pub ImagesRespond : Type 0
ImagesRespond = (p : ProgramTree) (image : Image) (m : Map) (t : Timing) → Maps p image m → TellsStories p image m t → AlwaysResponds p image m

abbrev pub ImagesTied : Type 0
ImagesTied = (p : ProgramTree) (image : Image) (m : Map) (t : Timing) → Maps p image m → TellsStories p image m t → AlwaysTied p image m
