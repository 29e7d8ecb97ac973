use Rattle.std.proofs.Common.{◌≡◌, Ok, Err, refl, sym, subst, arith}
use Rattle.arrival_script.specs.Running.{Ran, with_arrived}
use Rattle.arrival_script.proofs.RunFacts.{advanced, advances-error}
use Rattle.arrival_script.proofs.tracer.Tracer.advance.Goals as goal

pub returns-in_err-tell_step-clause-traced : goal.returns-in_err-tell_step-clause-traced
returns-in_err-tell_step-clause-traced g c = λ image s old same so.
    let m = c.args.map.now in
    let mid = (g.S.Sink.seen c.args.out.now).taken in
    let new = (g.S.Sink.seen c.tell_step.new.out).taken in
    let run = c.run_quietly-last.new.self in
    let f = c.in_err-tell_step.field-0.0 in
    let a = c.take_in-arrived.result in
    let quiet = c.run_quietly-last.result.1 in
    let report : with_arrived a quiet ≡ c.with_arrived-report.result = sym c.with_arrived-report.ensures in
    let ran = subst (λ r. Ran m image s c.run_quietly-last.result.0 r run old mid) report (c.run_quietly-last.ensures.ran m image s old mid (omega arith) c.requires.marked (c.take_in-arrived.ensures.ready m image s old mid (omega arith) so)) in
    advances-error m image s old new _ c.from_residual.result f c.from_residual.ensures.1
    (advanced m image s c.run_quietly-last.result.0 c.with_arrived-report.result run (record run { text = c.tell_step.new.text }) old mid new (Err f) (omega arith) refl ran c.in_err-tell_step.ensures.sent)

pub returns-clause-traced : goal.returns-clause-traced
returns-clause-traced g c = λ image s old same so.
    let m = c.args.map.now in
    let mid = (g.S.Sink.seen c.args.out.now).taken in
    let new = (g.S.Sink.seen c.tell_step.new.out).taken in
    let run = c.run_quietly-last.new.self in
    let a = c.take_in-arrived.result in
    let quiet = c.run_quietly-last.result.1 in
    let report : with_arrived a quiet ≡ c.with_arrived-report.result = sym c.with_arrived-report.ensures in
    let ran = subst (λ r. Ran m image s c.run_quietly-last.result.0 r run old mid) report (c.run_quietly-last.ensures.ran m image s old mid (omega arith) c.requires.marked (c.take_in-arrived.ensures.ready m image s old mid (omega arith) so)) in
    advanced m image s c.run_quietly-last.result.0 c.with_arrived-report.result run (record run { text = c.tell_step.new.text }) old mid new (Ok tt) (omega arith) refl ran c.in_ok-tell_step.ensures.sent
