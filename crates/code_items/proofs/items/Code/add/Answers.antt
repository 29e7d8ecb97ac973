use Rattle.std.proofs.Common.{◌<◌, length, map, ap, refl, append_assoc, arith}
use Rattle.std.proofs.lemmas.List.{take_more, length-map}
use Rattle.pic_isa.specs.declared.instructions.Dest.TheVariants.{W}
use Rattle.pic_isa.specs.declared.instructions.Instr.TheVariants.{Addwf}
use Rattle.code_items.specs.declared.items.Item.TheVariants.{Ins}
use Rattle.code_items.specs.Items.{raised}
use Rattle.code_items.proofs.ItemLaws.{get_or-raised}
use Rattle.code_items.proofs.items.Code.add.Goals as goal

pub loop-item-preserved : goal.loop-item-preserved
loop-item-preserved c =
    let items = c.args.more.now.items in
    let i = c.loop-item.item-index in
    let same = c.as_slice-item-items.ensures in
    let inside : i < length (map (raised c.args.up) items) = rw length-map (omega (arith, ap length same)) in
    let more = take_more (map (raised c.args.up) items) i (Ins (Addwf 0 W)) inside in
    let at = get_or-raised c.args.up items i (Addwf 0 W) in
    rw (more, at, c.in_ok-push.ensures.ok, c.raised_item.ensures, same, c.loop-item.invariant, append_assoc) refl
