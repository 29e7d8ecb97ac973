use Rattle.std.proofs.Common.{length}
use Rattle.efrp_syntax.proofs.PlaceFacts.{HasPassed}
use Rattle.efrp_syntax.proofs.places.token_place.Given as goal

abbrev pub invariant-loop-rest : goal.invariant-loop-rest
invariant-loop-rest l = HasPassed l.text l.rest l.after_number l.left l.n

abbrev pub decreases-loop-rest : goal.decreases-loop-rest
decreases-loop-rest l = length l.rest
