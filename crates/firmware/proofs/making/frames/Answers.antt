use Rattle.std.proofs.Common.{◌≡◌, ◌+◌, List, length, sym, subst, arith}
use Rattle.scratch_commit.specs.declared.frames.Frame.{Frame}
use Rattle.firmware_layout.specs.Codes.{makings_of, program_in}
use Rattle.firmware.specs.Making.{AreFramesOf}
use Rattle.firmware.proofs.MapFacts.{one_frame_more}
use Rattle.firmware.proofs.making.frames.Goals as goal

pub loop-event-preserved : goal.loop-event-preserved
loop-event-preserved c source =
    let f = makings_of c.args.parts.now c.args.spread source in
    subst (λ (frames : List Frame). AreFramesOf f (c.loop-event.event + 1) frames) (sym c.in_ok-push.ensures.items)
    (one_frame_more f c.loop-event.event c.loop-event.frames.items c.frame.result (c.loop-event.invariant source) (c.frame.ensures source))

pub returns : goal.returns
returns c source =
    let most = c.loop-event-test.false in
    let least = c.loop-event.auto.event-end in
    let works = c.requires.events in
    let events = c.requires.levels.events in
    let all : c.loop-event.event ≡ length (program_in c.args.parts.now).events = omega (arith, most, least, works, events) in
    subst (λ n. AreFramesOf (makings_of c.args.parts.now c.args.spread source) n c.loop-event.frames.items) all (c.loop-event.invariant source)
