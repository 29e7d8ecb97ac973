use Rattle.wave_text.proofs.TextFacts.{one_more_change}
use Rattle.wave_text.proofs.changes.write_changes.Goals as goal

pub loop-i-preserved : goal.loop-i-preserved
loop-i-preserved c = one_more_change _ _ _ _ _ _ _ _ c.loop-i-test.true c.requires c.loop-i.invariant c.in_ok-write_change.ensures
