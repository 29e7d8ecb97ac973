use Rattle.map_file.proofs.LineFacts.{range_first, range_last}
use Rattle.map_file.proofs.writer.write_ranges.Goals as goal

pub write_range-requires-clause-first : goal.write_range-requires-clause-first
write_range-requires-clause-first c = range_first _ _ _ _ c.requires c.loop-range-test.true

pub write_range-requires-clause-last : goal.write_range-requires-clause-last
write_range-requires-clause-last c = range_last _ _ _ _ c.requires c.loop-range-test.true
