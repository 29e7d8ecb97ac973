use Rattle.std.proofs.Common.{◌++◌, string_bytes, ap, subst, ◌∙◌}
use Rattle.pic_regs.specs.State.{registers_of}
use Rattle.arrival_script.specs.declared.traces.TraceFault.TheVariants as fault
use Rattle.arrival_script.specs.Running.{log_of}
use Rattle.arrival_script.specs.Trace.{Traces}
use Rattle.arrival_script.proofs.SendFacts.{end-fails, end-flushed}
use Rattle.arrival_script.proofs.RunFacts.{end-is, traces-error}
use Rattle.arrival_script.proofs.tracer.Tracer.finish.Goals as goal

pub returns-in_err-write_end-clause-traced : goal.returns-in_err-write_end-clause-traced
returns-in_err-write_end-clause-traced g c = λ image s old same so.
    let m = c.args.map.now in
    let mid = (g.S.Sink.seen c.args.out.now).taken in
    subst (λ n. Traces m (log_of image s) n old mid c.from_residual.result) same
    (traces-error m (log_of image s) c.args.steps old mid c.from_residual.result fault.Memory c.from_residual.ensures.1 (end-fails m (log_of image s) c.args.steps old mid (string_bytes c.args.self.now.text) so.kept.goes so.kept.sends))

pub returns-clause-traced : goal.returns-clause-traced
returns-clause-traced g c = λ image s old same so.
    let m = c.args.map.now in
    let mid = (g.S.Sink.seen c.args.out.now).taken in
    let kept = string_bytes c.args.self.now.text in
    let written = c.in_ok-write_end.ensures ∙ ap (λ l. kept ++ l) (end-is m image s c.args.steps c.args.self.now (registers_of c.regs.result.now) old mid so c.regs.ensures) in
    subst (λ n. Traces m (log_of image s) n old (g.S.Sink.seen c.flush.new.out).taken c.flush.result) same
    (end-flushed m (log_of image s) c.args.steps old mid (g.S.Sink.seen c.flush.new.out).taken kept (string_bytes c.write_end.new.text) (string_bytes c.flush.new.text) c.flush.result so.kept.goes so.kept.sends written c.flush.ensures.sent)
