use Rattle.wave_text.specs.Waves.{port_var}
use Rattle.wave_text.proofs.TextFacts.{one_more_at}
use Rattle.wave_text.proofs.headers.write_ports.Goals as goal

pub loop-port-preserved : goal.loop-port-preserved
loop-port-preserved c = one_more_at port_var _ _ _ _ _ _ c.loop-port-test.true c.loop-port.invariant c.in_ok-write_port.ensures
