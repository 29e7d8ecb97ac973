use Rattle.map_file.specs.MapText.{sample_line}
use Rattle.map_file.proofs.LineFacts.{one_more_line}
use Rattle.map_file.proofs.writer.write_samples.Goals as goal

pub loop-sample-preserved : goal.loop-sample-preserved
loop-sample-preserved c = one_more_line sample_line _ _ _ _ _ _ c.loop-sample-test.true c.sample-item.is c.loop-sample.invariant c.in_ok-write_sample.ensures
