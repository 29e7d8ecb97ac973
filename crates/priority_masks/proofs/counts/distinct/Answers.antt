use Rattle.std.proofs.Common.{arith, sym, ◌∙◌}
use Rattle.priority_masks.proofs.CountFacts.{seen-at, once-at}
use Rattle.priority_masks.proofs.counts.distinct.Goals as goal
use Rattle.priority_masks.proofs.counts.distinct.Goals.{then-not-comes_again, else-not-comes_again}

pub loop-i-preserved : goal.loop-i-preserved
loop-i-preserved c =
    let numbers = c.args.numbers.now in
    let i = c.loop-i.i in
    let most = c.loop-i.invariant.0 in
    let whole = c.loop-i.invariant.1 in
    elim c.if-not-comes_again.branch [
      | then-not-comes_again w ↦ let is = w.count-is in let step = once-at numbers i 0 c.loop-i-test.true (sym c.comes_again.ensures ∙ w.if-not-comes_again.true) in (omega (arith, is, most), omega (arith, is, step, whole))
      | else-not-comes_again w ↦ let is = w.count-is in let step = seen-at numbers i 0 c.loop-i-test.true (sym c.comes_again.ensures ∙ w.if-not-comes_again.false) in (omega (arith, is, most), omega (arith, is, step, whole))
    ]
