-- A law on the text of a trace: a line that ends with all states, as it is written.
use Rattle.std.proofs.Common.{◌≡◌, ℕ, List, ◌∷◌, ◌++◌}
use Rattle.std.specs.Prelude.{codes}
use Rattle.std.specs.List.{flat_map}
use Rattle.pic_regs.specs.Registers.{Registers}
use Rattle.map_file.specs.declared.maps.Map.{Map}
use Rattle.map_file.specs.MapText.{line}
use Rattle.arrival_script.specs.Trace.{state_field, state_fields}
use Rattle.arrival_script.specs.TraceParts.{spaced}
use Rattle.arrival_script.proofs.TraceFacts as facts

pub states_written : (m : Map) (r : Registers) (last : List ℕ) → line (last ∷ state_fields m r) ≡ last ++ (flat_map (λ s. spaced (state_field r s)) m.states ++ codes "\n")
states_written = facts.states-written
