use Rattle.std.proofs.Common.{◌≡◌, refl, subst, arith}
use Rattle.arrival_script.specs.Running.{Running, log_of}
use Rattle.arrival_script.proofs.RunFacts.{traces-error}
use Rattle.arrival_script.proofs.traces.trace.Goals as goal

pub loop-step-init : goal.loop-step-init
loop-step-init g c = record {
  inside = omega arith;
  running = c.new-tracer.ensures c.args.map.now (g.S.Sink.seen c.args.out.now).taken;
  count = omega arith;
}

pub advance-requires-clause-change : goal.advance-requires-clause-change
advance-requires-clause-change g c = c.loop-step.invariant.running.kept.change

pub advance-requires-clause-rise : goal.advance-requires-clause-rise
advance-requires-clause-rise g c = c.loop-step.invariant.running.kept.rise

pub returns-in_err-step-clause-traced : goal.returns-in_err-step-clause-traced
returns-in_err-step-clause-traced g c =
    let old = (g.S.Sink.seen c.args.out.now).taken in
    traces-error c.args.map.now (log_of c.args.image.now c.args.s.now) c.args.s.now.steps old (g.S.Sink.seen c.advance.new.out).taken c.from_residual.result c.in_err-step.field-0.0 c.from_residual.ensures.1
    (c.in_err-step.ensures.traced c.args.image.now c.args.s.now old refl c.loop-step.invariant.running)

pub loop-step-preserved : goal.loop-step-preserved
loop-step-preserved g c = record {
  inside = c.in_ok-step.ensures.further.1;
  running = c.in_ok-step.ensures.traced c.args.image.now c.args.s.now (g.S.Sink.seen c.args.out.now).taken refl c.loop-step.invariant.running;
  count = omega (arith, c.loop-step.invariant.count, c.advance.ensures.count);
}

pub returns-clause-traced : goal.returns-clause-traced
returns-clause-traced g c =
    let same : c.loop-step.step ≡ c.args.s.now.steps = omega (arith, c.loop-step.invariant.inside) in
    let old = (g.S.Sink.seen c.args.out.now).taken in
    let running = subst (λ k. Running c.args.map.now c.args.image.now c.args.s.now k c.loop-step.tracer old (g.S.Sink.seen c.loop-step.out).taken) same c.loop-step.invariant.running in
    c.finish.ensures.traced c.args.image.now c.args.s.now old refl running
