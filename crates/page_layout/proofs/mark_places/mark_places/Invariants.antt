use Rattle.std.proofs.Common.{◌≡◌, ℕ, ◌+◌, ◌≤◌, drop, length}
use Rattle.code_items.specs.Items.{words_in}
use Rattle.page_layout.specs.Emitted.{places}
use Rattle.page_layout.specs.Marks.{marks_after, marks_end, no_place}
use Rattle.page_layout.proofs.mark_places.mark_places.Given as goal

-- the words so far and those of the items that are left are all, the list has room, and what the items that are left make of it
-- is what all make of none
abbrev pub invariant-loop-item : goal.invariant-loop-item
invariant-loop-item l = record {
  at : l.at + words_in l.paged (drop l.item-index l.items) ≡ words_in l.paged l.items;
  room : marks_end (drop l.item-index l.items) ≤ length l.marks.items;
  number : length l.marks.items ≡ marks_end l.items;
  found : (m : ℕ) → marks_after l.paged l.at (drop l.item-index l.items) (places l.marks.items) m ≡ marks_after l.paged 0 l.items no_place m;
}
