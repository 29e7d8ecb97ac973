use Rattle.causality.specs.Waits.{AreEdges}
use Rattle.causality.proofs.edges.all_edges.Given as goal

abbrev pub invariant-loop-i : goal.invariant-loop-i
invariant-loop-i l = AreEdges l.graph l.i l.edges.items
