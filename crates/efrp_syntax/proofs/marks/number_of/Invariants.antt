use Rattle.std.proofs.Common.{◌≢◌, ℕ, ◌<◌, [], get_or}
use Rattle.frp_tree.specs.Tokens.{marks}
use Rattle.efrp_syntax.proofs.marks.number_of.Given as goal

abbrev pub invariant-loop-number : goal.invariant-loop-number
invariant-loop-number l = (k : ℕ) → k < l.number → get_or marks k [] ≢ l.text
