use Rattle.std.proofs.Common.{length}
use Rattle.map_file.proofs.ReadingFacts.{HasRead}
use Rattle.map_file.proofs.reader.read.Given as goal

abbrev pub invariant-loop-line : goal.invariant-loop-line
invariant-loop-line l = HasRead l.bytes l.rest l.number l.draft

abbrev pub decreases-loop-line : goal.decreases-loop-line
decreases-loop-line l = length l.rest
