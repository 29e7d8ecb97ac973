use Rattle.where_tool.proofs.LineFacts.{margin-more}
use Rattle.where_tool.proofs.reports.add_margin.Goals as goal

pub loop-byte-preserved : goal.loop-byte-preserved
loop-byte-preserved c = margin-more c.loop-byte.report c.add_pad.new.report c.args.report.now c.args.front.now c.loop-byte.byte-index c.loop-byte-test.true c.in_ok-add_pad.ensures c.loop-byte.invariant
