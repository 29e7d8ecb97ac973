use Rattle.std.proofs.Common.{◌+◌, ◌<◌, sym, ap, subst, ◌∙◌, arith}
use Rattle.arrival_script.specs.Sends.{ChangeFrom, RiseFrom}
use Rattle.arrival_script.specs.Trace.{is_late_at}
use Rattle.arrival_script.proofs.RunFacts.{ready-alone, went}
use Rattle.arrival_script.proofs.tracer.Tracer.run_quietly.Goals as goal

pub loop-last-init : goal.loop-last-init
loop-last-init c = record {
  above = omega arith;
  inside = c.requires.inside;
  change = c.requires.change;
  rise = c.requires.rise;
  ready = λ m image s old new inside marked so. so;
}

pub overflow_add-last : goal.overflow_add-last
overflow_add-last c = omega arith

pub returns-then-last-until-clause-inside : goal.returns-then-last-until-clause-inside
returns-then-last-until-clause-inside c = (c.loop-last.invariant.above, c.loop-last.invariant.inside)

pub returns-then-last-until-clause-ran : goal.returns-then-last-until-clause-ran
returns-then-last-until-clause-ran c = λ m image s old new inside marked so.
    let ready = c.loop-last.invariant.ready m image s old new inside marked so in
    c.run_step-report.ensures.ran m image s c.loop-last.last c.args.arrived.now old new (omega arith) (c.is_late_at.ensures ∙ ap (λ l. is_late_at l c.loop-last.last) so.kept.late) ready

pub overflow_add-last-in-loop-last : goal.overflow_add-last-in-loop-last
overflow_add-last-in-loop-last c = omega arith

pub loop-last-smaller : goal.loop-last-smaller
loop-last-smaller c = omega arith

pub loop-last-preserved : goal.loop-last-preserved
loop-last-preserved c =
    let until = c.args.until in
    let next : c.loop-last.last + 1 < until = omega arith in
    let alone = c.requires.alone (omega arith) in
    let change = subst (ChangeFrom until) (sym c.run_step-report.ensures.change) c.loop-last.invariant.change in
    let rise = subst (RiseFrom until) (sym c.run_step-report.ensures.rise) c.loop-last.invariant.rise in
    record {
      above = omega arith;
      inside = next;
      change = change;
      rise = rise;
      ready = λ m image s old new inside marked so.
          let ready = c.loop-last.invariant.ready m image s old new inside marked so in
          let ran = c.run_step-report.ensures.ran m image s c.loop-last.last c.args.arrived.now old new (omega arith) (c.is_late_at.ensures ∙ ap (λ l. is_late_at l c.loop-last.last) so.kept.late) ready in
          ready-alone m image s (c.loop-last.last + 1) until c.args.arrived.now c.run_step-report.new.self old new next inside alone.0 alone.1 rise change
          (went m image s c.loop-last.last c.args.arrived.now c.run_step-report.result c.run_step-report.new.self old new (omega arith) alone.0 alone.1 (c.is_plain.ensures c.if-not-is_plain.false m marked) ran);
    }
