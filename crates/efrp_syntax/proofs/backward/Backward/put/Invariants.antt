use Rattle.std.proofs.Common.{◌≡◌, ◌++◌, length, reverse}
use Rattle.efrp_syntax.proofs.backward.Backward.put.Given as goal

abbrev pub invariant-bytes : goal.invariant-bytes
invariant-bytes l = l.front ++ reverse l.self-inside.bytes.items ≡ l.bytes ++ reverse l.initial.self-inside.bytes.items

abbrev pub decreases-bytes : goal.decreases-bytes
decreases-bytes l = length l.front
