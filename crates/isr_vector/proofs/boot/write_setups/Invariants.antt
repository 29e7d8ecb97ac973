use Rattle.std.proofs.Common.{drop}
use Rattle.isr_vector.specs.Booting.{setup_writes}
use Rattle.isr_vector.proofs.BootFacts.{ToCome}
use Rattle.isr_vector.proofs.boot.write_setups.Given as goal

abbrev pub invariant-loop-setup : goal.invariant-loop-setup
invariant-loop-setup l = ToCome l.lines (setup_writes (drop l.setup-index l.setups)) l.fn.lines (setup_writes l.setups)
