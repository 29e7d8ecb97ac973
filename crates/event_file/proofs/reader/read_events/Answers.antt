use Rattle.std.proofs.Common.{◌+◌, subst, sym, ◌∙◌}
use Rattle.frp_tree.specs.Tree.{program_tree_of}
use Rattle.event_file.specs.Parts.{States}
use Rattle.event_file.proofs.ReadFacts.{ReadSoFar, not-empty, read-event}
use Rattle.event_file.proofs.reader.read_events.Goals as goal

pub loop-line-preserved-in_ok-keep : goal.loop-line-preserved-in_ok-keep
loop-line-preserved-in_ok-keep c =
    let p = program_tree_of c.args.t.now.program in
    let stated = subst (States p c.in-Some.line.now) c.in-Some-2.is c.in_ok-event.ensures in
    subst (ReadSoFar p 10000 c.args.bytes.now c.in-Some.more.now (c.loop-line.count + 1)) (sym c.in_ok-keep.ensures)
    (read-event p 10000 c.args.bytes.now c.loop-line.rest.now c.loop-line.count c.loop-line.events c.in-Some.line.now c.in-Some.more.now c.in-Some-2.event c.loop-line.invariant c.in-Some.ensures.line c.in-Some.ensures.shorter
    (not-empty c.in-Some.line.now (sym c.is_empty.ensures ∙ c.if-not-is_empty.true)) stated.0 stated.1)
