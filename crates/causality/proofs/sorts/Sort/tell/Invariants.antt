use Rattle.std.proofs.Common.{◌≡◌, length}
use Rattle.linked_rows.specs.Rows.{row}
use Rattle.causality.specs.Waits.{Waits}
use Rattle.causality.proofs.sorts.Sort.tell.Given as goal

abbrev pub invariant-loop-node : goal.invariant-loop-node
invariant-loop-node l = record {
  waits : Waits l.graph l.self.edges.items l.self.placed.items l.self.waits.items l.self.rows (row l.self.rows l.i);
  placed : l.self.placed.items ≡ l.initial.self.placed.items;
  nodes : l.self.rows.nodes ≡ l.initial.self.rows.nodes;
}

abbrev pub decreases-loop-node : goal.decreases-loop-node
decreases-loop-node l = length (row l.self.rows l.i)
