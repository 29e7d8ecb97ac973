use Rattle.std.proofs.Common.{◌≡◌, ◌+◌, ◌*◌, ◌≤◌, drop}
use Rattle.code_items.specs.Items.{words_in}
use Rattle.page_layout.proofs.counts.count_words.Given as goal

-- the words so far and those of the items that are left are all
abbrev pub invariant-loop-item : goal.invariant-loop-item
invariant-loop-item l = (l.number + words_in l.paged (drop l.item-index l.items) ≡ words_in l.paged l.items) × (l.number ≤ 3 * l.item-index)
