use Rattle.std.proofs.Common.{Err, ap, refl}
use Rattle.std.proofs.lemmas.Result.{err_from_is_err_and}
use Rattle.frp_tool.proofs.RunEndingFacts.{trace_failed, trace_exhausted, trace_stop_cut}
use Rattle.frp_tool.proofs.runs.traced.Goals as goal

pub returns-in_err-stop_line-in-Err-Stopped-clause-traced : goal.returns-in_err-stop_line-in-Err-Stopped-clause-traced
returns-in_err-stop_line-in-Err-Stopped-clause-traced g c =
    let p = err_from_is_err_and c.from_residual.result c.from_residual.ensures.1 in
    rw (p.1, p.2)
    (trace_stop_cut c.args.parts.now (g.S.Sink.seen c.args.out.now) (g.S.Sink.seen c.trace.new.out) c.in-Err-Stopped.step c.in-Err-Stopped.address c.in-Err-Stopped.why
    (rw c.in-Err-Stopped.field-0-is at c.in-Err-Stopped.ensures.traced))

pub returns-in_ok-stop_line-in-Err-Stopped-clause-traced : goal.returns-in_ok-stop_line-in-Err-Stopped-clause-traced
returns-in_ok-stop_line-in-Err-Stopped-clause-traced g c =
    let h = rw c.in-Err-Stopped.field-0-is at c.in-Err-Stopped.ensures.traced in
    (c.in-Err-Stopped.step, c.in-Err-Stopped.address, c.in-Err-Stopped.why, (h.0, h.1), h.2, refl, c.in_ok-stop_line-in-Err-Stopped.ensures)

pub returns-in-Err-Failed-clause-traced : goal.returns-in-Err-Failed-clause-traced
returns-in-Err-Failed-clause-traced g c = (
  c.in-Err-Failed.ensures.failed (ap (λ f. Err f) c.in-Err-Failed.field-0-is),
  trace_failed c.args.parts.now (g.S.Sink.seen c.args.out.now) (g.S.Sink.seen c.trace.new.out) (rw c.in-Err-Failed.field-0-is at c.in-Err-Failed.ensures.traced),
)

pub returns-in-Err-Memory-clause-traced : goal.returns-in-Err-Memory-clause-traced
returns-in-Err-Memory-clause-traced g c =
    trace_exhausted c.args.parts.now (g.S.Sink.seen c.args.out.now) (g.S.Sink.seen c.trace.new.out) (rw c.in-Err-Memory.field-0-is at c.in-Err-Memory.ensures.traced)
