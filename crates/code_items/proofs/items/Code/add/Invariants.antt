use Rattle.std.proofs.Common.{◌≡◌, ◌++◌, map, take}
use Rattle.code_items.specs.Items.{raised}
use Rattle.code_items.proofs.items.Code.add.Given as goal

-- the items so far are the first ones, raised
abbrev pub invariant-loop-item : goal.invariant-loop-item
invariant-loop-item l = l.self.items ≡ l.fn.self.items ++ take l.item-index (map (raised l.up) l.more.items)
