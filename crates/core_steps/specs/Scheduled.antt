-- In which time and order the bytes of a HEX file and of a map file treat events: `IsScheduled`.
use Rattle.std.specs.Prelude.{◌≡◌, ℕ, List}
use Rattle.frp_tree.specs.Tree.{ProgramTree}
use Rattle.hex_file.specs.declared.images.Image.{Image}
use Rattle.hex_file.specs.ImageOf.{IsImageOf}
use Rattle.map_file.specs.declared.maps.Map.{Map}
use Rattle.map_file.specs.MapRules.{IsMap}
use Rattle.map_file.specs.MapText.{map_text}
use Rattle.core_steps.specs.Laws.{AlwaysAccounted, AlwaysResponds, AlwaysTied}

-- The bytes of a HEX file and of a map file treat a program's events in time and in order. The first mean an image, and the
-- second are the text of a map; bytes have one such image and one such map at most. The rest is said of every run of the
-- image, from every start and whatever comes from outside, and all times are in steps of the chip.
--
-- From the ready boundary on an event that is latched, with all its latches before committed, commits at most this much later:
-- its response, Response(e) = 3 * Off + Body(e), and a cost for each latch of another event of its own or a higher priority
-- that waits then, is under way or comes before the commit. Where none of these events is flagged or under way, and no other
-- is latched before the commit, it commits within Response(e). Where it is latched before the ready boundary, that takes at
-- most Boot + 2 more.
--
-- Each run is tied to the core of priorities: of the events that wait, the one of the highest priority is taken, the first
-- declared among equals; it interrupts only runs of lower priority; and work that another commit has overtaken begins again
-- before it commits.
pub record IsScheduled (p : ProgramTree) (hex text : List ℕ) : Type 0 where
  pub image : Image
  pub firmware_map : Map
  pub means : IsImageOf hex image
  pub rules : IsMap firmware_map
  pub is_text : text ≡ map_text firmware_map
  pub accounted : AlwaysAccounted p image firmware_map
  pub responds : AlwaysResponds p image firmware_map
  pub tied : AlwaysTied p image firmware_map
