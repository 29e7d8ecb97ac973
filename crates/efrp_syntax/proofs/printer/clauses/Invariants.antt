use Rattle.std.proofs.Common.{◌≡◌, ◌++◌, length, map}
use Rattle.std.specs.List.{flat_map}
use Rattle.frp_tree.specs.Tree.{clause_of}
use Rattle.frp_tree.specs.Printed.{clause_tokens, spaced}
use Rattle.efrp_syntax.proofs.printer.clauses.Given as goal

abbrev pub invariant-row : goal.invariant-row
invariant-row l = spaced (flat_map clause_tokens (map clause_of l.rest)) ++ l.out ≡ spaced (flat_map clause_tokens (map clause_of l.clauses)) ++ l.initial.out

abbrev pub decreases-row : goal.decreases-row
decreases-row l = length l.rest
