use Rattle.std.proofs.Common.{take}
use Rattle.causality.specs.Graphs.{Marks}
use Rattle.causality.proofs.marks.mark.Given as goal

abbrev pub invariant-loop-n : goal.invariant-loop-n
invariant-loop-n l = Marks (take l.n-index l.numbers) l.initial.marked.items l.initial.left.items l.marked.items l.left.items
