use Rattle.std.proofs.Common.{◌+◌, vec_len}
use Rattle.causality.specs.Graphs.{unmarked}
use Rattle.causality.proofs.SearchFacts.{Searching}
use Rattle.causality.proofs.rounds.is_round.Given as goal

abbrev pub invariant-loop-y : goal.invariant-loop-y
invariant-loop-y l = Searching l.graph l.x l.marked.items l.left.items

abbrev pub decreases-loop-y : goal.decreases-loop-y
decreases-loop-y l = unmarked l.marked.items + vec_len l.left
