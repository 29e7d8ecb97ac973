-- What a map says of a chip: the states' values, and which registers are listed.
use Rattle.std.specs.Prelude.{ℕ, Bool, false, ◌&&◌, ◌||◌, nat_le, List, [], ◌∷◌, map}
use Rattle.map_file.specs.declared.maps.Range.{Range}
use Rattle.map_file.specs.declared.maps.Map.{Map}
use Rattle.pic_machine.specs.Chip.{Chip}
use Rattle.pic_machine.specs.StateValues.{value_in}

-- The values of the states, in the map's order.
abbrev pub states_in : Map → Chip → List ℕ
states_in m c = map (λ s. value_in c.regs s.ty s.low s.high) m.states

-- An address lies in one of the ranges.
abbrev pub is_in : List Range → ℕ → Bool
is_in [] address = false
is_in (r ∷ rs) address = nat_le r.from address && nat_le address r.to || is_in rs address

-- The map lists the register at this address.
abbrev pub is_listed : Map → ℕ → Bool
is_listed m address = is_in m.regs address
