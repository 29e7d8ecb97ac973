-- Each latch is treated once.
use Rattle.std.specs.Prelude.{◌≡◌, ℕ, ◌+◌, ◌⊎◌}
use Rattle.std.specs.List.{AllByRecursion}
use Rattle.pic_machine.specs.Run.{Log}
use Rattle.map_file.specs.declared.maps.MapEvent.{MapEvent}
use Rattle.map_file.specs.declared.maps.Map.{Map}
use Rattle.firmware_promises.specs.Counts.{latched_count, cleared_count, flag_after, commit_count}

-- After the first n steps an event isn't under way: each time its flag was cleared it has committed, and each of its latches
-- has committed or waits in the flag.
pub record Waits (m : Map) (log : Log) (e : MapEvent) (n : ℕ) : Type 0 where
  pub committed : cleared_count log e n ≡ commit_count m log e n
  pub accounted : latched_count log e n ≡ commit_count m log e n + flag_after log e n

-- It is under way: its flag was cleared once more than it committed, and one more latch stands for that.
pub record GoesOn (m : Map) (log : Log) (e : MapEvent) (n : ℕ) : Type 0 where
  pub under_way : cleared_count log e n ≡ commit_count m log e n + 1
  pub accounted : latched_count log e n ≡ commit_count m log e n + flag_after log e n + 1

-- Each once, after the first n steps: of each event each latch has committed, or waits in the flag, or is under way.
abbrev pub Once : Map → Log → ℕ → Type 0
Once m log n = AllByRecursion (λ e. Waits m log e n ⊎ GoesOn m log e n) m.events
