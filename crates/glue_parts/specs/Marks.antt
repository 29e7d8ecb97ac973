-- What the marks of firmware stand for, and their numbers.
use Rattle.std.specs.Prelude.{ℕ, ◌+◌, ◌≤◌}

-- A place of the firmware: the ready address; where the boot goes on; and of an event, by its number, the start of its run, the
-- instruction that opens its window, the one that commits, where its run begins again, and its lock.
pub data Spot : Type 0 where
  Ready : Spot
  Boot : Spot
  Entry : ℕ → Spot
  Opening : ℕ → Spot
  Committing : ℕ → Spot
  Again : ℕ → Spot
  Lock : ℕ → Spot

-- Its mark.
abbrev pub mark : Spot → ℕ
mark Ready = 48
mark Boot = 49
mark (Entry event) = event
mark (Opening event) = 16 + event
mark (Committing event) = 32 + event
mark (Again event) = 64 + event
mark (Lock event) = 80 + event

-- The number of its event is one of 0 to 10.
abbrev pub IsSpot : Spot → Type 0
IsSpot Ready = Unit {0}
IsSpot Boot = Unit {0}
IsSpot (Entry event) = (event ≤ 10)
IsSpot (Opening event) = (event ≤ 10)
IsSpot (Committing event) = (event ≤ 10)
IsSpot (Again event) = (event ≤ 10)
IsSpot (Lock event) = (event ≤ 10)
