use Rattle.std.proofs.Common.{◌≡◌, ◌≤◌, ◌+◌, drop, filter, nat_le}
use Rattle.efrp_meaning.specs.Bounds.{distinct}
use Rattle.priority_masks.proofs.counts.distinct_up_to.Given as goal

abbrev pub invariant-loop-i : goal.invariant-loop-i
invariant-loop-i l = (l.count ≤ l.i) × (l.count + distinct (filter (λ n. nat_le n l.most) (drop l.i l.numbers)) ≡ distinct (filter (λ n. nat_le n l.most) l.numbers))
