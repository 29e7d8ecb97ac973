use Rattle.wave_text.proofs.SignalFacts.{level-more}
use Rattle.wave_text.proofs.signals.level_in.Goals as goal

pub loop-signal-preserved : goal.loop-signal-preserved
loop-signal-preserved c = level-more _ _ _ _ _ c.loop-signal-test.true c.loop-signal.invariant c.level_with-level.ensures
