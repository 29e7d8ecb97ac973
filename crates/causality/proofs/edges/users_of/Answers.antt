use Rattle.std.proofs.Common.{sym, subst, length, ◌+◌, refl, arith, ◌≡◌}
use Rattle.causality.specs.Waits.{AreUsers}
use Rattle.causality.proofs.EdgeFacts.{users-begin, users-go, free-after}
use Rattle.causality.proofs.edges.users_of.Goals as goal

pub loop-k-init : goal.loop-k-init
loop-k-init c = subst (AreUsers c.args.count c.args.edges.now 0) (sym (c.in_ok-rows.ensures)) (users-begin c.args.count c.args.edges.now)

pub push_back-requires-clause-free : goal.push_back-requires-clause-free
push_back-requires-clause-free c = free-after c.args.count c.args.edges.now c.loop-k.k c.loop-k.rows c.loop-k.invariant

pub loop-k-preserved : goal.loop-k-preserved
loop-k-preserved c =
    subst (AreUsers c.args.count c.args.edges.now (c.loop-k.k + 1)) (sym c.push_back.ensures)
    (users-go c.args.count c.args.edges.now c.loop-k.k c.loop-k.rows c.loop-k.invariant _ _ c.loop-k-test.true refl refl (c.requires.within c.loop-k.k _ c.loop-k-test.true))

pub returns : goal.returns
returns c =
    let e : c.loop-k.k ≡ length c.args.edges.now = omega arith in
    subst (λ k. AreUsers c.args.count c.args.edges.now k c.loop-k.rows) e c.loop-k.invariant
