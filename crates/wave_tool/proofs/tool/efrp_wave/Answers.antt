use Rattle.std.proofs.Common.{Option, subst}
use Rattle.command_parts.specs.Outsides.{Outside}
use Rattle.command_parts.proofs.ToldLaws.{keeps_refl}
use Rattle.run_inputs.specs.RunFaults.{RunRequest}
use Rattle.wave_tool.specs.Promises.{PromisesOf}
use Rattle.wave_tool.proofs.tool.efrp_wave.Goals as goal

pub returns-in-Some : goal.returns-in-Some
returns-in-Some g c =
    let before : Outside = record { files = g.F.Files.seen c.args.files.now; out = g.S.Sink.seen c.args.out.now } in
    let after : Outside = record { files = g.F.Files.seen c.tell.new.files; out = g.S.Sink.seen c.tell.new.out } in
    subst (λ (asked : Option RunRequest). PromisesOf asked before after c.tell.result) c.in-Some.ensures c.tell.ensures

pub returns-in-None : goal.returns-in-None
returns-in-None g c =
    let files = g.F.Files.seen c.args.files.now in
    let before : Outside = record { files = files; out = g.S.Sink.seen c.args.out.now } in
    let after : Outside = record { files = files; out = g.S.Sink.seen c.say.new.out } in
    subst (λ (asked : Option RunRequest). PromisesOf asked before after c.say.result) c.in-None.ensures (keeps_refl files, rw c.as_bytes.ensures.value at c.say.ensures)
