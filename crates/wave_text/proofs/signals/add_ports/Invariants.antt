use Rattle.std.proofs.Common.{◌≡◌, ◌++◌, map, take, None}
use Rattle.wave_text.specs.declared.signals.Signal.TheVariants.{Port}
use Rattle.wave_text.proofs.signals.add_ports.Given as goal

abbrev pub invariant-loop-port : goal.invariant-loop-port
invariant-loop-port l = l.signals.items ≡ l.initial.signals.items ++ map (λ port. Port port None) (take l.port-index l.ports)
