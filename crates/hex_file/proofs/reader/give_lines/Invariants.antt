use Rattle.std.proofs.Common.{◌+◌, ◌≤◌, length}
use Rattle.hex_file.proofs.ReadFacts.{AreRead}
use Rattle.hex_file.proofs.reader.give_lines.Given as goal

abbrev pub invariant-loop-line : goal.invariant-loop-line
invariant-loop-line l = record {
  few : l.number + length l.rest ≤ length l.bytes;
  read : AreRead l.bytes l.rest l.number l.table l.ended;
}

abbrev pub decreases-loop-line : goal.decreases-loop-line
decreases-loop-line l = length l.rest
