use Rattle.std.proofs.Common.{arith, sym, ◌∙◌, get_or}
use Rattle.std.proofs.lemmas.Bool.{le-leb, lt-leb}
use Rattle.priority_masks.proofs.CountFacts.{over-at, within-once-at, within-seen-at}
use Rattle.priority_masks.proofs.counts.distinct_up_to.Goals as goal
use Rattle.priority_masks.proofs.counts.distinct_up_to.Goals.{then-number-most+then-not-comes_again, else-number-most, else-number-most-via-then-number-most+else-not-comes_again, else-number-most-via-else-number-most}

pub loop-i-preserved : goal.loop-i-preserved
loop-i-preserved c =
    let numbers = c.args.numbers.now in
    let bound = c.args.most in
    let i = c.loop-i.i in
    let x = get_or numbers i 0 in
    let less = c.loop-i-test.true in
    let most = c.loop-i.invariant.0 in
    let whole = c.loop-i.invariant.1 in
    elim c.if-number-most.branch [
      | then-number-most+then-not-comes_again w ↦
          let is = w.count-is in
          let step = within-once-at bound numbers i 0 less (le-leb x bound w.if-number-most.true) (sym w.comes_again.ensures ∙ w.if-not-comes_again.true) in
          (omega (arith, is, most), omega (arith, is, step, whole))
      | else-number-most w ↦
          let is = w.count-is in
          elim w.else-number-most.branch [
            | else-number-most-via-then-number-most+else-not-comes_again v ↦
                let step = within-seen-at bound numbers i 0 less (le-leb x bound v.if-number-most.true) (sym v.comes_again.ensures ∙ v.if-not-comes_again.false) in
                (omega (arith, is, most), omega (arith, is, step, whole))
            | else-number-most-via-else-number-most v ↦
                let step = over-at bound numbers i 0 less (lt-leb x bound v.if-number-most.false) in
                (omega (arith, is, most), omega (arith, is, step, whole))
          ]
    ]
