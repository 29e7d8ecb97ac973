use Rattle.where_tool.proofs.LineFacts.{shown-more}
use Rattle.where_tool.proofs.reports.add_shown.Goals as goal

pub loop-byte-preserved : goal.loop-byte-preserved
loop-byte-preserved c = shown-more c.loop-byte.report c.add_byte.new.report c.args.report.now c.args.bytes.now c.loop-byte.byte-index c.loop-byte-test.true c.in_ok-add_byte.ensures c.loop-byte.invariant
