use Rattle.efrp_types.specs.NameFaults.{event_faults}
use Rattle.efrp_types.proofs.AnswerLaws.{gone-more, gone-told, gone-all}
use Rattle.efrp_types.proofs.names.events.Goals as goal

pub returns-in_err-event : goal.returns-in_err-event
returns-in_err-event c =
    gone-told event_faults c.args.events.now c.loop-i.i c.index-events-i.result _ c.from_residual.result c.loop-i-test.true c.index-events-i.is c.loop-i.invariant c.from_residual.ensures.1 c.in_err-event.ensures

pub returns : goal.returns
returns c = gone-all event_faults c.args.events.now c.loop-i.i c.loop-i.auto.i-end c.loop-i-test.false c.loop-i.invariant

pub loop-i-preserved : goal.loop-i-preserved
loop-i-preserved c = gone-more event_faults c.args.events.now c.loop-i.i c.index-events-i.result c.loop-i-test.true c.index-events-i.is c.loop-i.invariant c.in_ok-event.ensures
