-- Ranges as they grow from the lowest address on.
use Rattle.std.specs.Prelude.{◌≡◌, ℕ, ◌<◌, Bool, ◌&&◌, nat_lt, List}
use Rattle.std.specs.List.{AllByRecursion}
use Rattle.map_file.specs.declared.maps.Range.{Range}
use Rattle.map_file.specs.MapRules.{RangesRise}
use Rattle.firmware_promises.specs.MapNames.{is_in}

-- The ranges end below a bound.
abbrev pub EndBelow : ℕ → List Range → Type 0
EndBelow bound ranges = AllByRecursion (λ (r : Range). r.to < bound) ranges

-- The ranges rise and don't touch, and of the addresses below a bound just those lie in them that pass a test.
pub record HoldBelow (bound : ℕ) (test : ℕ → Bool) (ranges : List Range) : Type 0 where
  pub rise : RangesRise 0 ranges
  pub ends : EndBelow bound ranges
  pub exact : (a : ℕ) → is_in ranges a ≡ (nat_lt a bound && test a)
