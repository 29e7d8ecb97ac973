use Rattle.std.proofs.Common.{length}
use Rattle.frp_tree.specs.Tree.{program_tree_of}
use Rattle.event_file.proofs.ReadFacts.{ReadSoFar}
use Rattle.event_file.proofs.reader.read_events.Given as goal

abbrev pub invariant-loop-line : goal.invariant-loop-line
invariant-loop-line l = ReadSoFar (program_tree_of l.t.program) 10000 l.bytes l.rest l.count l.events

abbrev pub decreases-loop-line : goal.decreases-loop-line
decreases-loop-line l = length l.rest
