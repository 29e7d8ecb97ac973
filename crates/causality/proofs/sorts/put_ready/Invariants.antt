use Rattle.std.proofs.Common.{length}
use Rattle.causality.specs.Waits.{AreReady}
use Rattle.causality.proofs.sorts.put_ready.Given as goal

abbrev pub invariant-loop-i : goal.invariant-loop-i
invariant-loop-i l = AreReady l.waits (length l.waits) l.i l.initial.rows l.rows
