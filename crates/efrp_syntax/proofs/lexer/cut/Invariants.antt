use Rattle.std.proofs.Common.{length}
use Rattle.efrp_syntax.proofs.CuttingFacts.{HasCut}
use Rattle.efrp_syntax.proofs.lexer.cut.Given as goal

abbrev pub invariant-loop-rest : goal.invariant-loop-rest
invariant-loop-rest l = HasCut l.text l.rest l.after_number l.found

abbrev pub decreases-loop-rest : goal.decreases-loop-rest
decreases-loop-rest l = length l.rest
