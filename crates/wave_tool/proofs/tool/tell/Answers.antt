use Rattle.command_parts.specs.Outsides.{Outside}
use Rattle.run_inputs.specs.RunFaults.{RunRequest}
use Rattle.wave_tool.proofs.ToolFacts.{promises}
use Rattle.wave_tool.proofs.tool.tell.Goals as goal

pub returns : goal.returns
returns g c =
    let r : RunRequest = record { hex = c.args.hex.now; map = c.args.map.now; script = c.args.script.now } in
    let before : Outside = record { files = g.F.Files.seen c.args.files.now; out = g.S.Sink.seen c.args.out.now } in
    let after : Outside = record { files = g.F.Files.seen c.waves-work.new.files; out = g.S.Sink.seen c.finish.new.out } in
    promises r before after c.finish.result c.waves-work.result c.waves-work.ensures.unchanged c.waves-work.ensures.works c.finish.ensures
