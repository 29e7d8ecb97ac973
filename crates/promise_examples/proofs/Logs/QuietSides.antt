-- When it has been quiet for long enough, at the map whose settle is 100.
use Rattle.std.specs.Prelude.{ℕ, zero, suc, ◌+◌, ◌<◌, ◌≤◌, true, List, [], ◌∷◌}
use Rattle.std.proofs.Common.{◌≡◌, refl, arith}
use Rattle.pic_isa.specs.declared.sources.Source.{Source}
use Rattle.pic_isa.specs.declared.sources.Source.TheVariants.{Int}
use Rattle.pic_machine.specs.Boundary.{Outer, no_outer}
use Rattle.pic_machine.specs.Run.{outer_of}
use Rattle.firmware_promises.specs.Firmware.{IsQuietLongEnough}
use Rattle.promise_examples.proofs.Logs.Stories.{int_alone, counting_map}

-- With no arrival it is so from 100 steps after power-on, and not after 99.
pub quiet_from_power_on : IsQuietLongEnough counting_map [] 100
quiet_from_power_on = (omega arith, λ k source h e. let none : k + 100 ≤ 100 = cc in none)

pub not_quiet_before : IsQuietLongEnough counting_map [] 99 → ⊥
not_quiet_before it = let e : 100 ≤ 99 = it.0 in omega arith

-- With an arrival at boundary 3 it is so from 103 steps on, and not after 102.
abbrev at_three : List Outer
at_three = no_outer ∷ no_outer ∷ no_outer ∷ record no_outer { arrivals = int_alone } ∷ []

pub quiet_from_arrival : IsQuietLongEnough counting_map at_three 103
quiet_from_arrival = (omega arith, at)
  where
    at : (k : ℕ) (source : Source) → k < 103 → (outer_of at_three k).arrivals source ≡ true → k + 100 ≤ 103
    at zero source h e = omega arith
    at (suc zero) source h e = omega arith
    at (suc (suc zero)) source h e = omega arith
    at (suc (suc (suc zero))) source h e = omega arith
    at (suc (suc (suc (suc k)))) source h e = cc

pub not_quiet_since_arrival : IsQuietLongEnough counting_map at_three 102 → ⊥
not_quiet_since_arrival it = let e : 3 + 100 ≤ 102 = it.1 3 Int (omega arith) refl in omega arith
