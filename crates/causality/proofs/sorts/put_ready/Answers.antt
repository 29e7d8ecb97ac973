use Rattle.std.proofs.Common.{◌≡◌, sym, subst, ◌+◌, length, arith}
use Rattle.causality.specs.Waits.{AreReady}
use Rattle.causality.proofs.WaitFacts.{ready-begins, ready-goes, free-of}
use Rattle.causality.proofs.sorts.put_ready.Goals as goal

pub loop-i-init : goal.loop-i-init
loop-i-init c = ready-begins c.args.waits.now (length c.args.waits.now) c.args.rows.now c.requires.none_ready

pub put_if-requires-clause-free : goal.put_if-requires-clause-free
put_if-requires-clause-free c ready =
    free-of c.args.waits.now (length c.args.waits.now) c.loop-i.i c.args.rows.now c.loop-i.rows c.loop-i.invariant c.loop-i.i (omega arith) (c.requires.free c.loop-i.i c.loop-i-test.true)

pub loop-i-preserved : goal.loop-i-preserved
loop-i-preserved c =
    subst (AreReady c.args.waits.now (length c.args.waits.now) (c.loop-i.i + 1) c.args.rows.now) (sym c.put_if.ensures)
    (ready-goes c.args.waits.now (length c.args.waits.now) c.loop-i.i c.args.rows.now c.loop-i.rows c.loop-i.invariant
    (let a = c.requires.list_in in let b = c.loop-i.invariant.lists in omega (arith, a, b)))

pub returns : goal.returns
returns c =
    let e : c.loop-i.i ≡ length c.args.waits.now = omega arith in
    subst (λ k. AreReady c.args.waits.now (length c.args.waits.now) k c.args.rows.now c.loop-i.rows) e c.loop-i.invariant
