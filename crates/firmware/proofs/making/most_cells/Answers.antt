use Rattle.std.proofs.Common.{length, refl, ◌∙◌}
use Rattle.std.proofs.lemmas.Option.{slice_get_read}
use Rattle.firmware.proofs.MapFacts.{one_more_cells}
use Rattle.firmware.proofs.making.most_cells.Goals as goal

pub loop-work-preserved : goal.loop-work-preserved
loop-work-preserved c =
    let works = c.args.works.now in
    let found = slice_get_read works (length works) c.loop-work.work-index c.work-item.result refl c.loop-work-test.true c.work-item.is in
    c.max-cells.ensures ∙ one_more_cells works c.loop-work.work-index c.work-item.result c.args.states c.loop-work.cells found c.loop-work.invariant
