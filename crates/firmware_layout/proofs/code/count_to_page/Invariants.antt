use Rattle.std.proofs.Common.{◌≡◌, ◌+◌, ◌≤◌, false, drop, min}
use Rattle.code_items.specs.Items.{words_in}
use Rattle.firmware_layout.proofs.code.count_to_page.Given as goal

-- the words so far and those of the items that are left are all, up to one more than a page has
abbrev pub invariant-loop-item : goal.invariant-loop-item
invariant-loop-item l = (min (l.count + words_in false (drop l.item-index l.items)) 2049 ≡ min (words_in false l.items) 2049) × (l.count ≤ 2049)
