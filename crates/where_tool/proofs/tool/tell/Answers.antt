use Rattle.command_parts.specs.Outsides.{Outside}
use Rattle.where_tool.specs.Verdicts.{Asked}
use Rattle.where_tool.proofs.PromiseFacts.{promises}
use Rattle.where_tool.proofs.ToolFacts.{tells, halts}
use Rattle.where_tool.proofs.tool.tell.Goals as goal

pub returns-in-Ok : goal.returns-in-Ok
returns-in-Ok g c =
    let a : Asked = record { source = c.args.source.now; line = c.args.line.now } in
    let before : Outside = record { files = g.F.Files.seen c.args.files.now; out = g.S.Sink.seen c.args.out.now } in
    let after : Outside = record { files = g.F.Files.seen c.verdict.new.files; out = g.S.Sink.seen c.say.new.out } in
    promises a before after c.say.result c.verdict.ensures.unchanged (tells a before after c.say.result c.in-Ok.told c.as_slice.result.now c.as_slice.ensures c.in-Ok.ensures.works c.say.ensures)

pub returns-in-Err : goal.returns-in-Err
returns-in-Err g c =
    let a : Asked = record { source = c.args.source.now; line = c.args.line.now } in
    let before : Outside = record { files = g.F.Files.seen c.args.files.now; out = g.S.Sink.seen c.args.out.now } in
    let after : Outside = record { files = g.F.Files.seen c.verdict.new.files; out = g.S.Sink.seen c.finish.new.out } in
    promises a before after c.finish.result c.verdict.ensures.unchanged (halts a before after c.finish.result c.in-Err.halt c.in-Err.ensures.works c.finish.ensures)
