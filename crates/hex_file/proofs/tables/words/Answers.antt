use Rattle.std.proofs.Common.{◌≡◌, None, Some, option_map, sym, ap, ◌∙◌}
use Rattle.hex_file.specs.declared.images.Word.{Word}
use Rattle.hex_file.specs.Tables.{word_item}
use Rattle.hex_file.proofs.TableFacts.{items_none, items_more, items_same}
use Rattle.hex_file.proofs.tables.words.Goals as goal
use Rattle.hex_file.proofs.tables.words.Goals.{in-Some+in_ok-push, in_default}

pub loop-address-init : goal.loop-address-init
loop-address-init c = cc (c.new-words.ensures, items_none (word_item c.args.table.now))

pub loop-address-preserved : goal.loop-address-preserved
loop-address-preserved c =
    let table = c.args.table.now in
    let address = c.loop-address.address in
    elim c.match-word_at.branch [
      | in-Some+in_ok-push w ↦
          let word : Word = record { address = address; word = w.in-Some.word } in
          let item : word_item table address ≡ Some word = ap (option_map (λ word. record { address = address; word = word })) (sym w.in-Some.ensures) in
          cc (items_more (word_item table) address word item, w.words-is, c.loop-address.invariant, w.in_ok-push.ensures.ok)
      | in_default w ↦
          let none : word_item table address ≡ None = ap (option_map (λ word. record { address = address; word = word })) (sym c.word_at.ensures ∙ w.in_default.is) in
          cc (items_same (word_item table) address none, w.words-is, c.loop-address.invariant)
    ]
