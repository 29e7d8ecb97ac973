use Rattle.std.proofs.Common.{◌≡◌, ◌++◌, string_bytes, take}
use Rattle.std.specs.List.{flat_map}
use Rattle.map_file.specs.MapText.{output_line}
use Rattle.map_file.proofs.writer.write_outputs.Given as goal

abbrev pub invariant-loop-port : goal.invariant-loop-port
invariant-loop-port l = string_bytes l.text ≡ string_bytes l.initial.text ++ flat_map output_line (take l.port-index l.outputs)
