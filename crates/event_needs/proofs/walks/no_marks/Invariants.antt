use Rattle.std.proofs.Common.{◌≡◌, replicate, false}
use Rattle.event_needs.proofs.walks.no_marks.Given as goal

abbrev pub invariant-loop : goal.invariant-loop
invariant-loop l = l.marked.items ≡ replicate l.counter false
