use Rattle.std.proofs.Common.{◌≡◌, map, take}
use Rattle.code_items.specs.declared.items.Item.TheVariants.{Ins}
use Rattle.op_code.proofs.coding.items.Given as goal

-- the items so far are the instructions so far
abbrev pub invariant-loop-i : goal.invariant-loop-i
invariant-loop-i l = l.code.items ≡ map Ins (take l.i-index l.instrs)
