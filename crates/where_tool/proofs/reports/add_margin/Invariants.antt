use Rattle.std.proofs.Common.{◌≡◌, ◌++◌, take}
use Rattle.where_tool.specs.Spots.{margin}
use Rattle.where_tool.proofs.reports.add_margin.Given as goal

abbrev pub invariant-loop-byte : goal.invariant-loop-byte
invariant-loop-byte l = l.report ≡ l.initial.report ++ margin (take l.byte-index l.front)
