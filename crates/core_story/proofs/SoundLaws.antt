-- A log that has a story keeps all that firmware promises, at every moment.
use Rattle.std.specs.Prelude.{ℕ, ◌≤◌, map}
use Rattle.std.proofs.Common.{◌≡◌, arith}
use Rattle.frp_tree.specs.Tree.{ProgramTree}
use Rattle.pic_machine.specs.Run.{Log}
use Rattle.map_file.specs.declared.maps.Map.{Map}
use Rattle.map_file.specs.MapRules.{IsMap}
use Rattle.firmware_promises.specs.Counts.{chip_after}
use Rattle.firmware_promises.specs.Firmware.{Keeps, event_of}
use Rattle.timed_core.specs.Timing.{Timing}
use Rattle.timed_core.proofs.ShapeLaws.{shape_at}
use Rattle.core_story.specs.Story.{Story}
use Rattle.core_story.proofs.BootLaws.{flags_stay, setups_stand}
use Rattle.core_story.proofs.FittedLaws.{nests}
use Rattle.core_story.proofs.OnceLaws.{once}
use Rattle.core_story.proofs.PutLaws.{follows}
use Rattle.core_story.proofs.UrgentLaws.{urgent}

module _ (p : ProgramTree) (m : Map) (is_map : IsMap m) (names : map event_of m.events ≡ p.events) (t : Timing) (log : Log) (story : Story p m t log) where
  depth_at : (k : ℕ) → (chip_after log k).depth ≤ m.depth
  depth_at k =
      omega (arith, (story.seen k).depth, nests p m is_map t story.fitted names (story.tale.phase k) (story.tale.stack k) (shape_at t story.tale k), story.fitted.depth)

  pub keeps : (n : ℕ) → Keeps p m log n
  keeps n = record {
    follows = follows p m t log story n;
    setups = setups_stand p m t log story n;
    flags = flags_stay p m t log story n;
    once = once p m is_map t log story n;
    urgent = urgent p m is_map t log story n;
    goes_on = λ k h. (story.told k).goes_on;
    listed = λ k h. (story.told k).listed;
    depth = λ k h. depth_at k;
  }
