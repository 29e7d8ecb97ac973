use Rattle.wave_text.specs.Waves.{event_vars}
use Rattle.wave_text.proofs.TextFacts.{one_more_line}
use Rattle.wave_text.proofs.headers.write_events.Goals as goal

pub loop-event-preserved : goal.loop-event-preserved
loop-event-preserved c = one_more_line event_vars _ _ _ _ _ _ c.loop-event-test.true c.event-item.is c.loop-event.invariant c.in_ok-write_event.ensures
