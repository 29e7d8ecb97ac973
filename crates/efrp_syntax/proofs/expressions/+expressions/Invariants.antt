use Rattle.std.proofs.Common.{◌+◌, ◌*◌, ◌≤◌, length}
use Rattle.frp_tree.specs.Tree.{tree_of}
use Rattle.efrp_syntax.specs.Expressions.{looseness}
use Rattle.efrp_syntax.proofs.RowFacts.{RowUpTo}
use Rattle.efrp_syntax.proofs.ShiftFacts.{ShiftsUpTo}
use Rattle.efrp_syntax.proofs.expressions.+expressions.Given as goal

abbrev pub decreases-phrase : goal.decreases-phrase
decreases-phrase l = 40 * length l.tokens.now + 2 * looseness l.level + 4

abbrev pub decreases-row : goal.decreases-row
decreases-row l = 40 * length l.tokens.now + 2 * looseness l.level + 3

abbrev pub decreases-whole : goal.decreases-whole
decreases-whole l = 40 * length l.tokens.now + 23

abbrev pub decreases-comparison : goal.decreases-comparison
decreases-comparison l = 40 * length l.tokens.now + 17

abbrev pub decreases-shifts : goal.decreases-shifts
decreases-shifts l = 40 * length l.tokens.now + 9

abbrev pub decreases-operand : goal.decreases-operand
decreases-operand l = 40 * length l.tokens.now + 3

abbrev pub decreases-named : goal.decreases-named
decreases-named l = 40 * length l.tokens.now + 1

abbrev pub decreases-looked : goal.decreases-looked
decreases-looked l = 40 * length l.tokens.now

abbrev pub decreases-choice : goal.decreases-choice
decreases-choice l = 40 * length l.tokens.now

abbrev pub decreases-bracketed : goal.decreases-bracketed
decreases-bracketed l = 40 * length l.tokens.now

abbrev pub decreases-signed : goal.decreases-signed
decreases-signed l = 40 * length l.tokens.now

abbrev pub decreases-converted : goal.decreases-converted
decreases-converted l = 40 * length l.tokens.now

abbrev pub invariant-row-row : goal.invariant-row-row
invariant-row-row l = record { up_to : RowUpTo l.level l.nesting l.tokens l.rest (tree_of l.left) l.fn.begun l.begun; shorter : length l.rest ≤ length l.tokens }

abbrev pub decreases-row-row : goal.decreases-row-row
decreases-row-row l = length l.rest

abbrev pub invariant-shifts-row : goal.invariant-shifts-row
invariant-shifts-row l = record { up_to : ShiftsUpTo l.nesting l.tokens l.rest (tree_of l.left) l.fn.begun l.begun; shorter : length l.rest ≤ length l.tokens }

abbrev pub decreases-shifts-row : goal.decreases-shifts-row
decreases-shifts-row l = length l.rest
