use Rattle.std.proofs.Common.{◌≡◌, ◌++◌, string_bytes, take}
use Rattle.std.specs.List.{flat_map}
use Rattle.map_file.specs.MapText.{state_line}
use Rattle.map_file.proofs.writer.write_states.Given as goal

abbrev pub invariant-loop-state : goal.invariant-loop-state
invariant-loop-state l = string_bytes l.text ≡ string_bytes l.initial.text ++ flat_map state_line (take l.state-index l.states)
