use Rattle.std.proofs.Common.{◌≡◌, max, drop}
use Rattle.page_layout.specs.Marks.{marks_end}
use Rattle.page_layout.proofs.counts.count_places.Given as goal

-- the places so far and those of the items that are left are all
abbrev pub invariant-loop-item : goal.invariant-loop-item
invariant-loop-item l = max l.places (marks_end (drop l.item-index l.items)) ≡ marks_end l.items
