use Rattle.std.proofs.Common.{◌≡◌, ◌++◌, ◌+◌, ◌*◌, ◌≤◌}
use Rattle.frp_tree.specs.Tree.{tree_of}
use Rattle.frp_tree.specs.Limits.{nodes}
use Rattle.frp_tree.specs.Printed.{bare, spaced}
use Rattle.efrp_syntax.proofs.expression_printer.+expressions.Given as goal

abbrev pub decreases-last_part : goal.decreases-last_part
decreases-last_part l = 4 * nodes (tree_of l.e.now)

abbrev pub decreases-bare : goal.decreases-bare
decreases-bare l = 4 * nodes (tree_of l.e.now) + 1

abbrev pub decreases-enclosed : goal.decreases-enclosed
decreases-enclosed l = 4 * nodes (tree_of l.e.now) + 2

abbrev pub decreases-shown : goal.decreases-shown
decreases-shown l = 4 * nodes (tree_of l.e.now) + 3

abbrev pub decreases-choice : goal.decreases-choice
decreases-choice l = 4 * (nodes (tree_of l.c.now) + (nodes (tree_of l.a.now) + nodes (tree_of l.b.now))) + 2

abbrev pub invariant-bare-row : goal.invariant-bare-row
invariant-bare-row l = record {
  text : spaced (bare (tree_of l.rest)) ++ l.out ≡ spaced (bare (tree_of l.e)) ++ l.initial.out;
  less : nodes (tree_of l.rest) ≤ nodes (tree_of l.e);
}

abbrev pub decreases-bare-row : goal.decreases-bare-row
decreases-bare-row l = nodes (tree_of l.rest)
