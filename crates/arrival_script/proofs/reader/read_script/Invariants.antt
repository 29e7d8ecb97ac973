use Rattle.std.proofs.Common.{length}
use Rattle.arrival_script.proofs.ReadFacts.{ReadSoFar}
use Rattle.arrival_script.proofs.reader.read_script.Given as goal

abbrev pub invariant-loop-line : goal.invariant-loop-line
invariant-loop-line l = ReadSoFar l.bytes l.rest l.count l.draft

abbrev pub decreases-loop-line : goal.decreases-loop-line
decreases-loop-line l = length l.rest
