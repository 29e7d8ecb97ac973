use Rattle.std.proofs.Common.{◌<◌, length, map, append_assoc, refl}
use Rattle.std.proofs.lemmas.List.{take_more, get_or-map, length-map}
use Rattle.pic_isa.specs.declared.instructions.Dest.TheVariants.{W}
use Rattle.pic_isa.specs.declared.instructions.Instr.TheVariants.{Addwf}
use Rattle.code_items.specs.declared.items.Item.TheVariants.{Ins}
use Rattle.glue_steps.specs.declared.lines.Line.TheVariants.{Constant}
use Rattle.glue_steps.specs.Lines.{item_of}
use Rattle.glue_steps.proofs.lines.add.Goals as goal

pub loop-line-preserved : goal.loop-line-preserved
loop-line-preserved c =
    let lines = c.args.lines.now in
    let i = c.loop-line.line-index in
    let below : i < length lines = c.loop-line-test.true in
    let inside : i < length (map item_of lines) = rw length-map below in
    let more = take_more (map item_of lines) i (Ins (Addwf 0 W)) inside in
    let at = get_or-map item_of lines i (Constant 0) (Ins (Addwf 0 W)) below in
    rw (more, at, c.in_ok-push.ensures.ok, c.item.ensures, c.loop-line.invariant, append_assoc) refl
