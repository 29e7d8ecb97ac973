use Rattle.std.proofs.Common.{◌≡◌, ◌++◌, take}
use Rattle.where_tool.specs.Spots.{shown}
use Rattle.where_tool.proofs.reports.add_shown.Given as goal

abbrev pub invariant-loop-byte : goal.invariant-loop-byte
invariant-loop-byte l = l.report ≡ l.initial.report ++ shown (take l.byte-index l.bytes)
