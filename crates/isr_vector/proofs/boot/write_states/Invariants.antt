use Rattle.std.proofs.Common.{drop}
use Rattle.isr_vector.specs.Booting.{cell_writes}
use Rattle.isr_vector.proofs.BootFacts.{ToCome}
use Rattle.isr_vector.proofs.boot.write_states.Given as goal

abbrev pub invariant-loop-cell : goal.invariant-loop-cell
invariant-loop-cell l = ToCome l.lines (cell_writes l.places.need l.cell (drop l.cell l.bytes)) l.fn.lines (cell_writes l.places.need 0 l.bytes)
