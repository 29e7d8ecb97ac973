use Rattle.std.proofs.Common.{◌≡◌, ◌==◌, ◌||◌, ◌+◌, ◌<◌, ◌≤◌, arith, subst, sym, ap, ◌∙◌, length}
use Rattle.priority_masks.specs.Levels.{level_of}
use Rattle.priority_masks.proofs.LevelLaws.{levels-rise}
use Rattle.scratch_commit.specs.Frames.{FrameNamed, frame_of}
use Rattle.scratch_commit.specs.Masks.{AreHeard, saved_of}
use Rattle.scratch_commit.specs.Plans.{context_in, is_bottom, plan_of}
use Rattle.scratch_commit.proofs.FrameFacts.{frame_named}
use Rattle.scratch_commit.proofs.runs.terms_of.Goals as goal

pub new-heard-requires-clause-from_one : goal.new-heard-requires-clause-from_one
new-heard-requires-clause-from_one c =
    let p = c.requires.levels.0 in
    let are = c.requires.levels.1 in
    let inside : c.args.run.now.event < length p.events = let few = are.events in let its = c.requires.event in omega arith in
    let from = (levels-rise p).from_one c.args.run.now.event inside in
    let its = c.level-level.ensures p are in omega (arith, from, its)

pub new-heard-requires-clause-to_all : goal.new-heard-requires-clause-to_all
new-heard-requires-clause-to_all c =
    let p = c.requires.levels.0 in
    let are = c.requires.levels.1 in
    let inside : c.args.run.now.event < length p.events = let few = are.events in let its = c.requires.event in omega arith in
    let to = (levels-rise p).to_all c.args.run.now.event inside in
    let its = c.level-level.ensures p are in
    let count = are.count in omega (arith, to, its, count)

pub new-frame-requires-clause-from_one : goal.new-frame-requires-clause-from_one
new-frame-requires-clause-from_one c =
    let p = c.requires.levels.0 in
    let are = c.requires.levels.1 in
    let inside : c.args.run.now.event < length p.events = let few = are.events in let its = c.requires.event in omega arith in
    let from = (levels-rise p).from_one c.args.run.now.event inside in
    let its = c.level-level.ensures p are in omega (arith, from, its)

pub new-frame-requires-clause-placed : goal.new-frame-requires-clause-placed
new-frame-requires-clause-placed c =
    let p = c.requires.levels.0 in
    let are = c.requires.levels.1 in
    let inside : c.args.run.now.event < length p.events = let few = are.events in let its = c.requires.event in omega arith in
    let to = (levels-rise p).to_all c.args.run.now.event inside in
    let its = c.level-level.ensures p are in
    let count = are.count in
    let placed = c.requires.placed in omega (arith, to, its, count, placed)

pub returns-clause-terms : goal.returns-clause-terms
returns-clause-terms c = λ p are.
    let level = c.level-level.ensures p are in
    let need = c.args.run.now.places.now.need in
    let kind = c.args.run.now.kind in
    record {
      heard = c.new-heard.result;
      are_heard = subst (λ n. AreHeard p n c.new-heard.result) level (c.new-heard.ensures p are);
      masks = c.masks_of-masks.ensures;
      frame =
          c.new-frame.ensures
          ∙ ap (λ n. frame_of kind n need c.context-context.result c.saved.result) level
          ∙ (λ j. frame_of kind (level_of p c.args.run.now.event) need
          (record { status = c.context-context.ensures.status p are j; pclath = c.context-context.ensures.pclath p are j }) (c.saved.ensures j))
          ∙ ap (λ m. frame_of kind (level_of p c.args.run.now.event) need (context_in (plan_of p c.args.run.now c.new-heard.result)) (saved_of m)) c.masks_of-masks.ensures;
      over_idle = c.is_over_idle.ensures ∙ ap (λ n. is_bottom kind || n == 1) (c.count.ensures p are);
    }

pub returns-clause-named : goal.returns-clause-named
returns-clause-named c =
    let p = c.requires.levels.0 in
    let are = c.requires.levels.1 in
    let inside : c.args.run.now.event < length p.events = let few = are.events in let its = c.requires.event in omega arith in
    let from = (levels-rise p).from_one c.args.run.now.event inside in
    let to = (levels-rise p).to_all c.args.run.now.event inside in
    let level = c.level-level.ensures p are in
    let count = are.count in
    let placed = c.requires.placed in
    subst FrameNamed (sym c.new-frame.ensures)
    (frame_named c.args.run.now.kind c.level-level.result c.args.run.now.places.now.need c.context-context.result c.saved.result
    c.args.run.now.places.now.fits (omega (arith, from, level)) (omega (arith, to, level, count, placed)))
