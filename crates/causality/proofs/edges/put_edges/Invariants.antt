use Rattle.std.proofs.Common.{◌≡◌, ◌++◌, map, take}
use Rattle.causality.proofs.edges.put_edges.Given as goal

abbrev pub invariant-loop-used : goal.invariant-loop-used
invariant-loop-used l = l.edges.items ≡ l.initial.edges.items ++ map (λ m. record { user = l.user; used = m }) (take l.used-index l.numbers)
