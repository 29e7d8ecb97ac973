use Rattle.std.proofs.Common.{take}
use Rattle.efrp_syntax.proofs.CountFacts.{HasCounted}
use Rattle.efrp_syntax.proofs.counts.one_too_many.Given as goal

abbrev pub invariant-loop-place : goal.invariant-loop-place
invariant-loop-place l = HasCounted (take l.place l.begun) l.counts
