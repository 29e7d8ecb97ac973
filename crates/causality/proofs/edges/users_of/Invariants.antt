use Rattle.causality.specs.Waits.{AreUsers}
use Rattle.causality.proofs.edges.users_of.Given as goal

abbrev pub invariant-loop-k : goal.invariant-loop-k
invariant-loop-k l = AreUsers l.count l.edges l.k l.rows
