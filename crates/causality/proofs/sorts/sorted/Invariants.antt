use Rattle.std.proofs.Common.{[], ◌≤◌}
use Rattle.causality.specs.Graphs.{unmarked}
use Rattle.causality.specs.Waits.{Waits}
use Rattle.causality.proofs.SortFacts.{Sorting}
use Rattle.causality.proofs.sorts.sorted.Given as goal

abbrev pub invariant-loop-i : goal.invariant-loop-i
invariant-loop-i l = record {
  so_far : Sorting l.graph l.sort.placed.items l.order;
  nodes : l.sort.rows.nodes ≤ 4352;
  waits : Waits l.graph l.sort.edges.items l.sort.placed.items l.sort.waits.items l.sort.rows [];
}

abbrev pub decreases-loop-i : goal.decreases-loop-i
decreases-loop-i l = unmarked l.sort.placed.items
