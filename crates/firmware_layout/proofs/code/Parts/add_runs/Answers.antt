use Rattle.std.proofs.Common.{◌-◌, ◌++◌, ap, ◌∙◌, arith, get_or}
use Rattle.firmware_layout.specs.Codes.{makings_of}
use Rattle.firmware_layout.specs.Pieces.{run_of}
use Rattle.firmware_layout.proofs.CodeFacts.{one_more_run}
use Rattle.firmware_layout.proofs.code.Parts.add_runs.Goals as goal

pub loop-k-preserved : goal.loop-k-preserved
loop-k-preserved c = λ source are.
    let run = run_of (makings_of c.args.self.now c.args.spread source) in
    let k = c.loop-k.k in
    let some = c.loop-k-test.true in
    let most = c.loop-k.auto.k in
    c.in_ok-add_run.ensures source are
    ∙ ap (λ items. items ++ run (get_or c.args.order.now (k - 1) 0)) (c.loop-k.invariant source are)
    ∙ one_more_run run c.args.order.now (k - 1) k c.args.code.now.items (omega (arith, some)) (omega (arith, some, most))
