use Rattle.map_file.specs.MapText.{event_line}
use Rattle.map_file.proofs.LineFacts.{one_more_line}
use Rattle.map_file.proofs.writer.write_events.Goals as goal

pub loop-event-preserved : goal.loop-event-preserved
loop-event-preserved c = one_more_line event_line _ _ _ _ _ _ c.loop-event-test.true c.event-item.is c.loop-event.invariant c.in_ok-write_event.ensures
