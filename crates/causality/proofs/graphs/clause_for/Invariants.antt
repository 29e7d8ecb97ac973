use Rattle.std.proofs.Common.{◌≡◌, drop, map}
use Rattle.frp_tree.specs.Tree.{clause_of}
use Rattle.efrp_meaning.specs.Needs.{clause_for}
use Rattle.causality.proofs.graphs.clause_for.Given as goal

abbrev pub invariant-loop-c : goal.invariant-loop-c
invariant-loop-c l = clause_for l.event (map clause_of l.clauses) ≡ clause_for l.event (map clause_of (drop l.c-index l.clauses))
