use Rattle.std.proofs.Common.{◌≡◌, ◌++◌, map, take}
use Rattle.glue_steps.specs.Lines.{item_of}
use Rattle.glue_steps.proofs.lines.add.Given as goal

-- the items so far are those of the first lines
abbrev pub invariant-loop-line : goal.invariant-loop-line
invariant-loop-line l = l.code.items ≡ l.fn.code.items ++ take l.line-index (map item_of l.lines)
