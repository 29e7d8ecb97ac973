-- The least and the greatest priority, and what is past them.
use Rattle.std.proofs.Common.{arith}
use Rattle.frp_tree.specs.Priorities.{IsPriority}

pub least : IsPriority 1
least = omega arith

pub greatest : IsPriority 11
greatest = omega arith

pub below_least : IsPriority 0 → ⊥
below_least h = omega arith

pub past_greatest : IsPriority 12 → ⊥
past_greatest h = omega arith
