use Rattle.std.proofs.Common.{string_bytes, refl, sym, ap, subst, ◌∙◌}
use Rattle.edge_io.specs.Sinks.{Appends}
use Rattle.pic_machine.specs.declared.steps.Stepped.{Stepped}
use Rattle.pic_machine.specs.Dids.{is_stop}
use Rattle.arrival_script.proofs.SendFacts.{sends-kept, tells-memory, tells-unflushed, tells-flush}
use Rattle.arrival_script.proofs.sends.tell_step.Goals as goal

pub returns-in_err-write_step-clause-sent : goal.returns-in_err-write_step-clause-sent
returns-in_err-write_step-clause-sent g c = λ told report chip.
    tells-memory c.args.step told (g.S.Sink.seen c.args.out.now).taken (string_bytes c.args.text.now) _ _ c.from_residual.result c.from_residual.ensures.1

pub returns-in_err-flush-clause-sent : goal.returns-in_err-flush-clause-sent
returns-in_err-flush-clause-sent g c = λ told report chip.
    tells-unflushed c.args.step told (g.S.Sink.seen c.args.out.now).taken (g.S.Sink.seen c.flush.new.out).taken (string_bytes c.args.text.now) (string_bytes c.write_step.new.text) (string_bytes c.flush.new.text) _
    c.in_err-flush.field-0.0 c.from_residual-in_err-flush.result c.from_residual-in_err-flush.ensures.1 (c.in_ok-write_step.ensures told report chip) c.in_err-flush.ensures.sent

pub returns-in-Some-clause-sent : goal.returns-in-Some-clause-sent
returns-in-Some-clause-sent g c = λ told report chip. (
  refl,
  sym (ap (λ (r : Stepped). r.did) report) ∙ c.in-Some.ensures,
  subst (Appends (g.S.Sink.seen c.args.out.now).taken (g.S.Sink.seen c.flush.new.out).taken) (c.in_ok-write_step.ensures told report chip) c.in_ok-flush.ensures.sent.0,
)

pub returns-then-len-lt-PAGE-clause-sent : goal.returns-then-len-lt-PAGE-clause-sent
returns-then-len-lt-PAGE-clause-sent g c = λ told report chip. (
  ap is_stop (sym (ap (λ (r : Stepped). r.did) report)) ∙ c.in_default.ensures,
  sends-kept (g.S.Sink.seen c.args.out.now).taken (string_bytes c.args.text.now) (string_bytes c.write_step.new.text) _ (c.in_ok-write_step.ensures told report chip),
)

pub returns-clause-sent : goal.returns-clause-sent
returns-clause-sent g c = λ told report chip.
    tells-flush c.args.step told (g.S.Sink.seen c.args.out.now).taken (g.S.Sink.seen c.flush-2.new.out).taken (string_bytes c.args.text.now) (string_bytes c.write_step.new.text) (string_bytes c.flush-2.new.text) _ c.flush-2.result
    (ap is_stop (sym (ap (λ (r : Stepped). r.did) report)) ∙ c.in_default.ensures) (c.in_ok-write_step.ensures told report chip) c.flush-2.ensures.sent
