use Rattle.std.proofs.Common.{◌≡◌, refl, sym, ap, subst, ◌∙◌, add-one, arith}
use Rattle.std.specs.List.{AllByRecursion}
use Rattle.pic_machine.specs.Dids.{is_stop}
use Rattle.arrival_script.specs.Running.{log_of, chip_at}
use Rattle.arrival_script.specs.Trace.{GoesOn}
use Rattle.wave_text.specs.Drawing.{Drawn}
use Rattle.wave_text.specs.Signals.{HasPlace}
use Rattle.wave_text.proofs.DrawFacts.{goes-more}
use Rattle.wave_text.proofs.SignalFacts.{placed}
use Rattle.wave_text.proofs.waves.draw.Goals as goal

pub loop-step-init : goal.loop-step-init
loop-step-init c = record {
  inside = omega arith;
  played = c.new-player.ensures;
  goes = λ i h. absurd (omega arith);
  drawn = c.in_ok-wave.ensures (log_of c.args.image.now c.args.script.now) c.args.script.now.steps c.new-player.ensures.chip;
}

pub draw-requires : goal.draw-requires
draw-requires c =
    subst (AllByRecursion HasPlace) (sym c.loop-step.invariant.drawn.now) (placed (log_of c.args.image.now c.args.script.now) c.loop-step.step c.args.map.now c.requires.rules)

pub returns-in-Some : goal.returns-in-Some
returns-in-Some c =
    let seen = c.step-seen.ensures.seen c.args.image.now c.args.script.now c.loop-step-test.true c.loop-step.invariant.played in
    let did = sym seen.did ∙ c.in-Some.ensures in
    (record { in_time = c.loop-step-test.true; before = c.loop-step.invariant.goes; stopped = ap is_stop did }, did)

pub loop-step-preserved : goal.loop-step-preserved
loop-step-preserved c =
    let log = log_of c.args.image.now c.args.script.now in
    let k = c.loop-step.step in
    let seen = c.step-seen.ensures.seen c.args.image.now c.args.script.now c.loop-step-test.true c.loop-step.invariant.played in
    let played = c.step-seen.ensures.played c.args.image.now c.args.script.now c.loop-step-test.true c.loop-step.invariant.played in
    record {
      inside = omega (arith, c.loop-step-test.true);
      played = played;
      goes = goes-more log k c.loop-step.invariant.goes (ap is_stop (sym seen.did) ∙ c.in_default.ensures);
      drawn = c.in_ok-draw.ensures c.args.map.now log c.args.script.now.steps k refl refl seen (played.chip ∙ ap (chip_at c.args.image.now c.args.script.now) (add-one k)) c.loop-step.invariant.drawn;
    }

pub returns : goal.returns
returns c =
    let log = log_of c.args.image.now c.args.script.now in
    let same : c.loop-step.step ≡ c.args.script.now.steps = omega (arith, c.loop-step.invariant.inside, c.loop-step-test.false) in
    let drawn = subst (λ k. Drawn c.args.map.now log c.args.script.now.steps k c.loop-step.wave) same c.loop-step.invariant.drawn in
    (subst (GoesOn log) same c.loop-step.invariant.goes, drawn.text)
