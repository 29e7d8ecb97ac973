-- The ready boundary of a log.
use Rattle.std.specs.Prelude.{◌≡◌, ℕ, ◌<◌, ◌≤◌, true, ◌⊎◌}
use Rattle.pic_machine.specs.Run.{Log}
use Rattle.map_file.specs.declared.maps.Map.{Map}
use Rattle.firmware_promises.specs.Counts.{chip_after, takes}

-- The first n steps show that the chip has come to k steps ready: after k steps the program counter is at the ready address,
-- or step k takes an interrupt.
abbrev pub ShowsReady : Map → Log → ℕ → ℕ → Type 0
ShowsReady m log n k = ((k ≤ n) × ((chip_after log k).pc ≡ m.ready)) ⊎ ((k < n) × (takes (log k) ≡ true))

-- The ready boundary of the first n steps is r, the least such k.
pub record ReadyAt (m : Map) (log : Log) (n r : ℕ) : Type 0 where
  pub shown : ShowsReady m log n r
  pub least : (k : ℕ) → k < r → ShowsReady m log n k → ⊥

-- Step k comes before the ready boundary, as far as the first n steps show.
abbrev pub BeforeReady : Map → Log → ℕ → ℕ → Type 0
BeforeReady m log n k = (j : ℕ) → j ≤ k → ShowsReady m log n j → ⊥
