use Rattle.std.proofs.Common.{arith}
use Rattle.wave_text.specs.Signals.{next}
use Rattle.wave_text.proofs.SignalFacts.{map-more, map-whole}
use Rattle.wave_text.proofs.signals.next_signals.Goals as goal

pub loop-signal-preserved : goal.loop-signal-preserved
loop-signal-preserved c = record {
  is = λ step seen chip. map-more (next step) _ _ _ _ _ _ c.loop-signal-test.true (c.loop-signal.invariant.is step seen chip) c.in_ok-push.ensures.items (c.next.ensures step seen chip);
  same = omega (arith, c.in_ok-push.ensures.len, c.loop-signal.invariant.same);
}

pub returns-clause-is : goal.returns-clause-is
returns-clause-is c = λ step seen chip. map-whole (next step) _ _ _ c.loop-signal-test.false (c.loop-signal.invariant.is step seen chip)
