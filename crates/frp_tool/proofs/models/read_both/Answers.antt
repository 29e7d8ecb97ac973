use Rattle.std.proofs.lemmas.Result.{err_from_is_err_and}
use Rattle.frp_tool.specs.declared.models.SourceAndEvents.{SourceAndEvents}
use Rattle.frp_tool.specs.Models.{ModelRequest, AreModelTexts}
use Rattle.frp_tool.proofs.ModelFacts.{source_unread, events_unread}
use Rattle.frp_tool.proofs.models.read_both.Goals as goal

pub returns-in_err-input-clause-gives : goal.returns-in_err-input-clause-gives
returns-in_err-input-clause-gives g c =
    let r : ModelRequest = record { source = c.args.source.now; events = c.args.events.now } in
    let before = g.F.Files.seen c.args.files.now in
    let p = err_from_is_err_and c.from_residual.result c.from_residual.ensures.1 in
    rw (p.1, p.2) (source_unread (λ (both : SourceAndEvents). AreModelTexts r before (record { source = both.source; events = both.events })) r before (g.F.Files.seen c.input.new.files) _ c.in_err-input.ensures.gives)

pub returns-in_err-input-2-clause-gives : goal.returns-in_err-input-2-clause-gives
returns-in_err-input-2-clause-gives g c =
    let r : ModelRequest = record { source = c.args.source.now; events = c.args.events.now } in
    let before = g.F.Files.seen c.args.files.now in
    let first = c.in_ok-input.ensures in
    let p = err_from_is_err_and c.from_residual-in_err-input-2.result c.from_residual-in_err-input-2.ensures.1 in
    rw (p.1, p.2)
    (events_unread (λ (both : SourceAndEvents). AreModelTexts r before (record { source = both.source; events = both.events })) r before (g.F.Files.seen c.input.new.files) (g.F.Files.seen c.input-2.new.files) _ c.in_ok-input.field-0
    first.unchanged first.read_count first.gives c.in_err-input-2.ensures.gives)
