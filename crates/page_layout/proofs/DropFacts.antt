-- Items from a place on: the first of them, and the rest.
use Rattle.std.proofs.Common.{◌≡◌, ℕ, suc, ◌+◌, ◌%◌, ◌≤◌, ◌<◌, Bool, max, List, [], ◌∷◌, ◌++◌, drop, get_or, length, ap, ◌∙◌, arith}
use Rattle.std.proofs.Math.Seq.{drop-cons}
use Rattle.pic_isa.specs.declared.instructions.Dest.TheVariants.{W}
use Rattle.pic_isa.specs.declared.instructions.Instr.TheVariants.{Addwf}
use Rattle.code_items.specs.declared.items.Item.{Item}
use Rattle.code_items.specs.declared.items.Item.TheVariants.{Ins}
use Rattle.code_items.specs.Items.{words_of_item, words_in}
use Rattle.page_layout.specs.Marks.{places_for, marks_end}

-- The item at a place, as the code reads it.
abbrev pub item_at : List Item → ℕ → Item
item_at items i = get_or items i (Ins (Addwf 0 W))

pub first-rest : (items : List Item) (i : ℕ) → i < length items → drop i items ≡ item_at items i ∷ drop (i + 1) items
first-rest items i inside = let one : suc i ≡ i + 1 = omega arith in drop-cons items i (Ins (Addwf 0 W)) inside ∙ ap (λ k. item_at items i ∷ drop k items) one

pub words-first : (paged : Bool) (items : List Item) (i : ℕ) → i < length items
    → words_in paged (drop i items) ≡ words_of_item paged (item_at items i) + words_in paged (drop (i + 1) items)
words-first paged items i inside = ap (words_in paged) (first-rest items i inside)

pub end-first : (items : List Item) (i : ℕ) → i < length items → marks_end (drop i items) ≡ max (places_for (item_at items i)) (marks_end (drop (i + 1) items))
end-first items i inside = ap marks_end (first-rest items i inside)
