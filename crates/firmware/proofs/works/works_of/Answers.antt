use Rattle.std.proofs.Common.{◌+◌, List, sym, subst}
use Rattle.frp_tree.specs.Tree.{program_tree_of}
use Rattle.event_code.specs.declared.works.Work.{Work}
use Rattle.firmware.specs.Making.{AreWorksOf}
use Rattle.firmware.proofs.WorkFacts.{one_work_more}
use Rattle.firmware.proofs.works.works_of.Goals as goal

pub loop-event-preserved : goal.loop-event-preserved
loop-event-preserved c =
    let p = program_tree_of c.args.c.now.typed.program in
    let need = c.args.places.now.need in
    subst (λ (works : List Work). AreWorksOf p need (c.loop-event.event + 1) works) (sym c.in_ok-push.ensures.items)
    (one_work_more p need c.loop-event.event c.loop-event.works.items c.in_ok-one.one c.loop-event.invariant c.in_ok-one.ensures)
