use Rattle.std.proofs.Common.{◌<◌, ◌≤◌, ◌-◌}
use Rattle.hex_file.proofs.RunFacts.{Follow}
use Rattle.hex_file.proofs.writer.record_len.Given as goal

abbrev pub invariant-loop-count : goal.invariant-loop-count
invariant-loop-count l = record { some : 0 < l.count; at_most : l.count ≤ l.most; follow : Follow l.words l.count }

abbrev pub decreases-loop-count : goal.decreases-loop-count
decreases-loop-count l = l.most - l.count
