use Rattle.std.proofs.Common.{◌≡◌, ◌≤◌, ◌+◌, drop}
use Rattle.efrp_meaning.specs.Bounds.{distinct}
use Rattle.priority_masks.proofs.counts.distinct.Given as goal

abbrev pub invariant-loop-i : goal.invariant-loop-i
invariant-loop-i l = (l.count ≤ l.i) × (l.count + distinct (drop l.i l.numbers) ≡ distinct l.numbers)
