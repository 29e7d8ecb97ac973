-- An image each of whose runs has a story keeps what it promises; and where the relation between a core and the chip holds
-- for its program memory, each of its runs has one.
use Rattle.std.specs.Prelude.{ℕ, true, not, List}
use Rattle.std.proofs.Common.{◌≡◌, arith}
use Rattle.std.proofs.lemmas.Bool.{and_parts}
use Rattle.frp_tree.specs.Tree.{ProgramTree}
use Rattle.pic_isa.specs.declared.sources.Source.{Source}
use Rattle.pic_regs.specs.declared.starts.Start.{Start}
use Rattle.pic_regs.specs.Registers.{flag}
use Rattle.pic_machine.specs.Chip.{Chip}
use Rattle.pic_machine.specs.Boundary.{Outer}
use Rattle.pic_machine.specs.Run.{program_of, power_on, outer_of, after, run}
use Rattle.hex_file.specs.declared.images.Image.{Image}
use Rattle.map_file.specs.declared.maps.Map.{Map}
use Rattle.map_file.specs.MapRules.{IsMap}
use Rattle.firmware_promises.specs.Counts.{latches}
use Rattle.firmware_promises.specs.Firmware.{AlwaysKeeps, AlwaysSettles}
use Rattle.timed_core.specs.Timing.{Timing}
use Rattle.timed_core.specs.Steps.{Run, Phase}
use Rattle.core_story.specs.Values.{Values}
use Rattle.core_story.specs.Interface.{Simulated}
use Rattle.core_story.specs.Story.{Story}
use Rattle.core_story.specs.Laws.{Maps, TellsStories, StoriesKeep, StoriesSettle, ImagesKeep, ImagesSettle}
use Rattle.core_story.proofs.StoryLaws.{story}
use Rattle.core_story.proofs.SoundLaws.{keeps}
use Rattle.core_story.proofs.SettleLaws.{settled}

pub stories_keep : StoriesKeep
stories_keep p image m t log maps its_story n = keeps p m maps.rules maps.names.events t log its_story n

pub stories_settle : StoriesSettle
stories_settle p image m t log maps its_story n long quiet = settled p m maps.rules maps.names.events t log its_story n long quiet

pub images_keep : ImagesKeep
images_keep p image m t maps tells start outers n is_start = stories_keep p image m t (run image start outers) maps (tells start outers is_start) n

-- What is latched has arrived.
latched_arrives : (image : Image) (start : Start) (outers : List Outer) (k : ℕ) (source : Source) → latches source (run image start outers k) ≡ true → (outer_of outers k).arrivals source ≡ true
latched_arrives image start outers k source h =
    let c : Chip = after (program_of image) (power_on start) (outer_of outers) k in (and_parts ((outer_of outers k).arrivals source) (not (flag source c.regs)) h).0

pub images_settle : ImagesSettle
images_settle p image m t maps tells start outers n is_start quiet =
    let its_story : Story p m t (run image start outers) = tells start outers is_start in
    let enough = its_story.fitted.settle in
    stories_settle p image m t (run image start outers) maps its_story n (let long = quiet.0 in omega (arith, enough, long))
    (λ k source before latched. omega (arith, enough, quiet.1 k source before (latched_arrives image start outers k source latched)))

-- From the relation that a chip part shows.
module _ (p : ProgramTree) (image : Image) (m : Map) (t : Timing) (Sim : Phase → List Run → Values → Chip → Type 0) (simulated : Simulated p m t (program_of image) Sim) where
  pub tells_stories : IsMap m → TellsStories p image m t
  tells_stories is_map start outers is_start = story p m t (program_of image) Sim simulated is_map start is_start (outer_of outers)

  pub always_keeps : Maps p image m → AlwaysKeeps p image m
  always_keeps maps = images_keep p image m t maps (tells_stories maps.rules)

  pub always_settles : Maps p image m → AlwaysSettles p image m
  always_settles maps = images_settle p image m t maps (tells_stories maps.rules)
