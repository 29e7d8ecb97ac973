use Rattle.std.proofs.Common.{◌≡◌, ◌+◌, ◌%◌, ◌≤◌, List, drop, length, ap, ◌∙◌, sym, arith}
use Rattle.code_items.specs.declared.items.Item.{Item}
use Rattle.code_items.specs.Items.{words_of_item}
use Rattle.page_layout.specs.Emitted.{places}
use Rattle.page_layout.specs.Marks.{marks_after, places_for, with_place}
use Rattle.page_layout.proofs.DropFacts.{item_at, first-rest, words-first, end-first}
use Rattle.page_layout.proofs.MarkFacts.{after-like, noted-place, noted-length}
use Rattle.page_layout.proofs.mark_places.mark_places.Goals as goal

pub loop-item-preserved : goal.loop-item-preserved
loop-item-preserved c =
    let items = c.args.items.now in
    let paged = c.args.paged in
    let i = c.loop-item.item-index in
    let old = c.loop-item.marks.items in
    let new = c.note.new.marks.items in
    let at = c.loop-item.at in
    let item : Item = item_at items i in
    let rest : List Item = drop (i + 1) items in
    let words = c.item_words-at.ensures.words in
    let first = words-first paged items i c.loop-item-test.true in
    let ends = end-first items i c.loop-item-test.true in
    let before = c.loop-item.invariant in
    let room : places_for item ≤ length old = omega (arith, ends, before.room) in
    let size : length new ≡ length old = ap length c.note.ensures ∙ noted-length item (at % 8192) old in
    record {
      at = omega (arith, first, words, before.at);
      room = omega (arith, ends, before.room, size);
      number = size ∙ before.number;
      found = λ m.
          ap (λ n. marks_after paged (at + n) rest (places new) m) words
          ∙ after-like paged (at + words_of_item paged item) rest (places new) (with_place item (at % 8192) (places old))
          (λ k. ap (λ l. places l k) c.note.ensures ∙ noted-place item (at % 8192) old room k) m
          ∙ ap (λ left. marks_after paged at left (places old) m) (sym (first-rest items i c.loop-item-test.true))
          ∙ before.found m;
    }
