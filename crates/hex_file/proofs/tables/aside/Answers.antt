use Rattle.std.proofs.Common.{◌≡◌, None, Some, option_map, sym, ap, ◌∙◌}
use Rattle.hex_file.specs.declared.images.Aside.{Aside}
use Rattle.hex_file.specs.Tables.{aside_item}
use Rattle.hex_file.proofs.TableFacts.{items_none, items_more, items_same}
use Rattle.hex_file.proofs.tables.aside.Goals as goal
use Rattle.hex_file.proofs.tables.aside.Goals.{in-Some+in_ok-push, in_default}

pub loop-address-init : goal.loop-address-init
loop-address-init c = cc (c.new-bytes.ensures, items_none (aside_item c.args.table.now))

pub loop-address-preserved : goal.loop-address-preserved
loop-address-preserved c =
    let table = c.args.table.now in
    let address = c.loop-address.address in
    elim c.match-aside_at.branch [
      | in-Some+in_ok-push w ↦
          let byte : Aside = record { address = address; byte = w.in-Some.byte } in
          let item : aside_item table address ≡ Some byte = ap (option_map (λ byte. record { address = address; byte = byte })) (sym w.in-Some.ensures) in
          cc (items_more (aside_item table) address byte item, w.bytes-is, c.loop-address.invariant, w.in_ok-push.ensures.ok)
      | in_default w ↦
          let none : aside_item table address ≡ None = ap (option_map (λ byte. record { address = address; byte = byte })) (sym c.aside_at.ensures ∙ w.in_default.is) in
          cc (items_same (aside_item table) address none, w.bytes-is, c.loop-address.invariant)
    ]
