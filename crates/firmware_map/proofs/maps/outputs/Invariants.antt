use Rattle.std.proofs.Common.{◌≡◌, map, take, Some}
use Rattle.frp_tree.specs.declared.syntax.Output.{Output}
use Rattle.pic_isa.specs.Names.{port_at}
use Rattle.firmware_map.proofs.maps.outputs.Given as goal

abbrev pub invariant-loop-output : goal.invariant-loop-output
invariant-loop-output l = map (λ port. Some port) l.ports ≡ map (λ (o : Output). port_at o.port) (take l.output-index l.outputs)
