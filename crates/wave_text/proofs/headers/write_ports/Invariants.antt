use Rattle.std.proofs.Common.{◌≡◌, ◌++◌, string_bytes, take}
use Rattle.std.specs.List.{flat_map}
use Rattle.wave_text.specs.Waves.{port_var}
use Rattle.wave_text.proofs.headers.write_ports.Given as goal

abbrev pub invariant-loop-port : goal.invariant-loop-port
invariant-loop-port l = string_bytes l.text ≡ string_bytes l.initial.text ++ flat_map port_var (take l.port-index l.ports)
