-- Addresses by marks, as they are found from the first item on.
use Rattle.std.specs.Prelude.{ℕ, ◌+◌, ◌%◌, max, Bool, List, [], ◌∷◌, slice_set}
use Rattle.pic_regs.specs.Bytes.{updated}
use Rattle.code_items.specs.declared.items.Item.{Item}
use Rattle.code_items.specs.declared.items.Item.TheVariants.{Ins, Mark, Jump}
use Rattle.code_items.specs.Items.{words_of_item}

-- The places that a list by marks needs for an item, and for items: one more than the greatest mark.
abbrev pub places_for : Item → ℕ
places_for (Mark m) = m + 1
places_for (Ins i) = 0
places_for (Jump m) = 0

abbrev pub marks_end : List Item → ℕ
marks_end [] = 0
marks_end (item ∷ items) = max (places_for item) (marks_end items)

-- No mark has an address.
abbrev pub no_place : ℕ → ℕ
no_place m = 0

-- An item's mark has this address from now on.
abbrev pub with_place : Item → ℕ → (ℕ → ℕ) → ℕ → ℕ
with_place (Mark m) at marks = updated marks m at
with_place (Ins i) at marks = marks
with_place (Jump m) at marks = marks

-- The address of each mark behind items that stand from an address on, counted on past the last address.
abbrev pub marks_after : (paged : Bool) → ℕ → List Item → (ℕ → ℕ) → ℕ → ℕ
marks_after paged at [] marks = marks
marks_after paged at (item ∷ items) marks = marks_after paged (at + words_of_item paged item) items (with_place item (at % 8192) marks)

-- The same for a list.
abbrev pub noted : Item → ℕ → List ℕ → List ℕ
noted (Mark m) at marks = slice_set marks m at
noted (Ins i) at marks = marks
noted (Jump m) at marks = marks
