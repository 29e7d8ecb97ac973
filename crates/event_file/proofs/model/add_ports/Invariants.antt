use Rattle.std.proofs.Common.{◌≡◌, ◌++◌, drop, map, string_bytes}
use Rattle.frp_tree.specs.Tree.{output_of}
use Rattle.event_file.specs.Written.{port_lines}
use Rattle.event_file.proofs.model.add_ports.Given as goal

abbrev pub invariant-loop-output : goal.invariant-loop-output
invariant-loop-output l =
    string_bytes l.text ++ port_lines (map output_of (drop l.output-index l.outputs)) l.rest
    ≡ string_bytes l.initial.text ++ port_lines (map output_of l.outputs) l.ports
